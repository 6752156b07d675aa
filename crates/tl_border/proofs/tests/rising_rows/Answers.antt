use Rattle.std.proofs.Common.{◌≡◌, ℕ, ◌+◌, List, [], ◌∷◌, ◌++◌, map, sym, ap, ◌∙◌}
use Rattle.std.proofs.lemmas.List.{map-append}
use Rattle.tl_lists.specs.Lists.{upto}
use Rattle.tl_lists.proofs.Members.{upto_more}
use Rattle.tl_border.specs.declared.row.Row.{Row}
use Rattle.tl_border.specs.Levels.{level}
use Rattle.tl_border.specs.Rows.{bits_of_row}
use Rattle.tl_border.proofs.tests.rising_rows.Goals as goal

more : (n : ℕ) (rows later : List Row) (row : Row) → later ≡ rows ++ row ∷ [] → map bits_of_row rows ≡ map level (upto n) → bits_of_row row ≡ level n → map bits_of_row later ≡ map level (upto (n + 1))
more n rows later row items so this = ap (map bits_of_row) items ∙ (map-append bits_of_row rows (row ∷ []) ∙ (ap (λ ps. ps ++ bits_of_row row ∷ []) so ∙ (ap (λ p. map level (upto n) ++ p ∷ []) this
    ∙ sym (ap (map level) (upto_more n) ∙ map-append level (upto n) (n ∷ [])))))

pub loop-number-preserved : goal.loop-number-preserved
loop-number-preserved c = more c.loop-number.number c.loop-number.rows.items _ _ c.in_ok-push.ensures.items c.loop-number.invariant (c.in_ok-level_row.ensures ∙ ap level c.from.ensures)
