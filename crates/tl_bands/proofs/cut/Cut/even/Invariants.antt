use Rattle.std.proofs.Common.{◌≡◌}
use Rattle.tl_bands.specs.Cuts.{share}
use Rattle.tl_bands.proofs.Even.{firsts_below, CutsBelow}
use Rattle.tl_bands.proofs.cut.Cut.even.Given as goal

abbrev pub invariant-loop-band : goal.invariant-loop-band
invariant-loop-band l = record {
  firsts : l.firsts.items ≡ firsts_below l.rows l.bands l.band;
  cuts : CutsBelow (share l.rows l.bands l.band) l.firsts.items;
}
