use Rattle.tl_packed.specs.OfClasses.{AreOfLayout}
use Rattle.tl_crew.proofs.Stored.{AreStored}
use Rattle.tl_crew.proofs.stretches.store.Given as goal

abbrev pub invariant-loop-j : goal.invariant-loop-j
invariant-loop-j g l = record {
  size : AreOfLayout (g.S.Sweeping.course l.stretch).layout l.both;
  stored : AreStored (λ hand. hand.share.first) (λ hand. hand.share.end) (g.S.Sweeping.course l.stretch) l.hands l.j (g.S.Sweeping.course l.stretch).start l.both;
}
