use Rattle.std.proofs.Common.{◌≡◌, length}
use Rattle.tl_strings.specs.Words.{triangle_slot}
use Rattle.tl_row_sweep.proofs.Stepped.{IsStepped}
use Rattle.tl_row_sweep.proofs.Strips.{AreStripsMade}
use Rattle.tl_row_sweep.proofs.triangles.triangle_rows.Given as goal

abbrev pub invariant-loop-strip : goal.invariant-loop-strip
invariant-loop-strip l = record {
  len : length l.strings ≡ length l.fn.strings;
  swept : AreStripsMade (IsStepped (triangle_slot l.class l.height l.from l.to l.planes.coins.now l.planes.lows.now l.planes.free.now) l.height l.fn.strings)
      l.height l.first l.end 1 l.strip l.fn.strings l.strings;
}
