use Rattle.std.proofs.Common.{◌≡◌, All, vec_len}
use Rattle.tl_border.specs.Ends.{IsOfLength}
use Rattle.tl_border.proofs.border.blank_rows.Given as goal

abbrev pub invariant-loop : goal.invariant-loop
invariant-loop l = record { count : vec_len l.rows ≡ l.counter; lengths : All (IsOfLength l.length) l.rows.items }
