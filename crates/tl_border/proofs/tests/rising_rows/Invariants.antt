use Rattle.std.proofs.Common.{◌≡◌, map}
use Rattle.tl_lists.specs.Lists.{upto}
use Rattle.tl_border.specs.Levels.{level}
use Rattle.tl_border.specs.Rows.{bits_of_row}
use Rattle.tl_border.proofs.tests.rising_rows.Given as goal

abbrev pub invariant-loop-number : goal.invariant-loop-number
invariant-loop-number l = map bits_of_row l.rows.items ≡ map level (upto l.number)
