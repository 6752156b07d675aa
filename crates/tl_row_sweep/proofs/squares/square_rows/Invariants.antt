use Rattle.std.proofs.Common.{◌≡◌, length}
use Rattle.tl_strings.specs.Words.{square_slot}
use Rattle.tl_row_sweep.proofs.Stepped.{IsStepped}
use Rattle.tl_row_sweep.proofs.Strips.{AreStripsMade}
use Rattle.tl_row_sweep.proofs.squares.square_rows.Given as goal

abbrev pub invariant-loop-strip : goal.invariant-loop-strip
invariant-loop-strip l = record {
  len : length l.strings ≡ length l.fn.strings;
  swept : AreStripsMade (IsStepped (square_slot l.is_odd l.height l.others l.planes.coins.now l.planes.lows.now l.planes.free.now) l.height l.fn.strings)
      l.height l.first l.end 1 l.strip l.fn.strings l.strings;
}
