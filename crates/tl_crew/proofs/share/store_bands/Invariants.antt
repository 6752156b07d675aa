use Rattle.tl_packed.specs.OfClasses.{AreOfLayout}
use Rattle.tl_crew.proofs.Stored.{AreStored}
use Rattle.tl_crew.proofs.share.store_bands.Given as goal

abbrev pub invariant-loop-j : goal.invariant-loop-j
invariant-loop-j g l = record {
  size : AreOfLayout (g.S.Sweeping.course l.stretch).layout l.both;
  stored : AreStored (λ band. band.upper.own) (λ band. band.lower.beside) (g.S.Sweeping.course l.stretch) l.bands l.j l.fn.both l.both;
}
