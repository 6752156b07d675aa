use Rattle.std.proofs.Common.{ℕ, ◌<◌, get_or}
use Rattle.std.specs.Prelude.{All}
use Rattle.tl_band.specs.declared.band.Band.{Band}
use Rattle.tl_band.specs.Bands.{IsBandAt, IsPlacedIn}
use Rattle.tl_band.specs.Edges.{IsSideAt}
use Rattle.tl_crew.specs.Bands.{AreSameBands}
use Rattle.tl_crew.proofs.share.begin_upper.Given as goal

abbrev pub invariant-loop-j : goal.invariant-loop-j
invariant-loop-j g l = record {
  rows : AreSameBands l.fn.bands l.bands;
  placed : All (IsPlacedIn (g.S.Sweeping.course l.stretch).layout) l.bands;
  at : (k : ℕ) (d : Band) → k < l.j → IsBandAt (g.S.Sweeping.course l.stretch) (get_or l.bands k d);
  upper : (d : Band) → IsSideAt (g.S.Sweeping.course l.stretch) (get_or l.bands l.j d).upper.own (get_or l.bands l.j d).upper.beside 0 l.upper;
}
