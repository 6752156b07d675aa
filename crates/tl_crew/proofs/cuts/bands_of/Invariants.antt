use Rattle.std.proofs.Common.{◌≡◌, ◌+◌, length}
use Rattle.tl_crew.specs.Cuts.{AreBandsOf}
use Rattle.tl_crew.proofs.cuts.bands_of.Given as goal

abbrev pub invariant-loop-j : goal.invariant-loop-j
invariant-loop-j l = record {
  count : l.from + length l.bands.items ≡ l.j;
  bands : AreBandsOf l.layout l.cut l.from l.bands.items;
}
