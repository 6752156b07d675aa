-- What a queue of a job may hold, and what it may not.
use Rattle.std.proofs.Common.{◌≡◌, Bool, true, false, [], ◌∷◌, length, refl, sym, ◌∙◌, ap, arith}
use Rattle.std.specs.Prelude.{List, slice_index_or}
use Rattle.tl_border.specs.declared.row.Row.{Row}
use Rattle.tl_border.specs.declared.row.RowBits.{RowBits}
use Rattle.tl_border.specs.declared.row.Side.TheVariants.{Upper}
use Rattle.tl_border.specs.Rows.{bits_of_row}
use Rattle.tl_border.specs.Rule.{sender_of, receiver_of, IsLine}
use Rattle.tl_border.specs.Levels.{level, three_up}

-- whether the first number of a row is odd
abbrev is_odd : RowBits → Bool
is_odd row = slice_index_or row.bits 0 false

-- the same of the first row
abbrev first_is_odd : List RowBits → Bool
first_is_odd rows = is_odd (slice_index_or rows 0 (level 0))

-- two rows are sent and one is got: the second is in the queue
second_waits : (row : Row) → bits_of_row row ≡ level 2 → IsLine (row ∷ []) (sender_of three_up Upper 2 0 2) (receiver_of three_up Upper 1 0 1)
second_waits row is = record {
  sends = refl;
  gets = refl;
  one_job = refl;
  one_side = refl;
  sent_within = omega arith;
  got_within = omega arith;
  queued = ap (λ p. p ∷ []) is;
  at_most = omega arith;
  at_least = omega arith;
  held_within = omega arith;
}

-- the third row has no turn yet
not_third : (row : Row) → bits_of_row row ≡ level 3 → IsLine (row ∷ []) (sender_of three_up Upper 2 0 2) (receiver_of three_up Upper 1 0 1) → ⊥
unfolding level
not_third row is line = let e : true ≡ false = ap first_is_odd (ap (λ p. p ∷ []) (sym is) ∙ line.queued) in cc e

-- the second row stands behind the first
not_turned : (first second : Row) → bits_of_row first ≡ level 1 → bits_of_row second ≡ level 2
    → IsLine (second ∷ first ∷ []) (sender_of three_up Upper 2 0 2) (receiver_of three_up Upper 0 0 0) → ⊥
unfolding level
not_turned first second is next line = let e : false ≡ true = ap is_odd (sym next) ∙ ap first_is_odd line.queued in cc e

-- a row that is sent and not got is there
not_lost : IsLine [] (sender_of three_up Upper 1 0 1) (receiver_of three_up Upper 0 0 0) → ⊥
not_lost line = omega (arith, ap length line.queued)

-- no row is got before it is sent
not_early : (items : List Row) → IsLine items (sender_of three_up Upper 0 0 0) (receiver_of three_up Upper 1 0 0) → ⊥
not_early items line = let e = line.got_within in omega (arith, e)
