use Rattle.std.proofs.Common.{arith, subst}
use Rattle.tl_bands.specs.Cuts.{Cut, AreParted}
use Rattle.tl_bands.proofs.Bands.{parted, few_bands}
use Rattle.tl_bands.proofs.cut.Cut.count.Goals as goal

pub prove-unreachable-requires : goal.prove-unreachable-requires
prove-unreachable-requires c =
    let few = few_bands c.self.inside.rows c.self.inside.firsts.items c.self.invariant in
    omega (arith, few, c.len.ensures, c.if-prove.true)

pub returns-clause-parted : goal.returns-clause-parted
returns-clause-parted c =
    subst (λ (cut : Cut). AreParted cut.rows cut.firsts) c.self.view_is (parted c.self.inside.rows c.self.inside.firsts.items c.self.invariant)
