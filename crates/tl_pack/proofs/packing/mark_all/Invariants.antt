use Rattle.tl_pack.specs.Packs.{ArePacked}
use Rattle.tl_pack.proofs.packing.mark_all.Given as goal

abbrev pub invariant-loop-place : goal.invariant-loop-place
invariant-loop-place l = ArePacked l.layout l.class l.numbers l.place l.words
