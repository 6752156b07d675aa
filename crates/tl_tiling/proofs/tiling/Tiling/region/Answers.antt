use Rattle.tl_tiling.proofs.DrawLemmas.{letters-tiling}
use Rattle.tl_tiling.proofs.tiling.Tiling.region.Goals as goal

pub returns-clause-tiling : goal.returns-clause-tiling
returns-clause-tiling c = rw (← c.self.view_is) (letters-tiling c.self.inside.region.now c.self.inside.letters.items c.self.invariant.0 c.self.invariant.1)
