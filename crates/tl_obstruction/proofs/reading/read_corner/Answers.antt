use Rattle.std.proofs.Common.{◌≡◌, List, ◌∷◌, ℕ, sym, ◌∙◌, ap, subst}
use Rattle.std.specs.Option.{option_copied}
use Rattle.tl_formats.specs.ObstructionText.{words_of, corner_of_words}
use Rattle.tl_obstruction.specs.Told.{words_after}
use Rattle.tl_obstruction.proofs.Words.{corner-too_long}
use Rattle.tl_obstruction.proofs.reading.read_corner.Goals as goal

pub returns-in-Some-rest : goal.returns-in-Some-rest
returns-in-Some-rest c =
    let r = c.cut_word.result.0.now in
    let x = c.cut_word-2.result.0.now in
    let first = subst (λ o. words_of c.args.line.now ≡ r ∷ words_after (option_copied o)) c.in-Some.is c.cut_word.ensures in
    let second = subst (λ o. words_of c.in-Some.rest.now ≡ x ∷ words_after (option_copied o)) c.in-Some-rest.is c.cut_word-2.ensures in
    corner-too_long r x c.in-Some-rest.field-0.now ∙ sym (ap corner_of_words (first ∙ ap (λ (ws : List (List ℕ)). r ∷ ws) second))
