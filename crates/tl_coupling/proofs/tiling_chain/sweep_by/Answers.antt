use Rattle.tl_sweep.specs.Sweeps.{bit_in}
use Rattle.tl_coupling.specs.SweptNumbers.{swept-is}
use Rattle.tl_coupling.proofs.tiling_chain.sweep_by.Goals as goal

pub returns-clause-swept : goal.returns-clause-swept
returns-clause-swept c = λ bits agree.
    swept-is c.args.heights.now.region (bit_in c.args.words.now) bits c.region-region.ensures.accepted.placed agree
    c.args.heights.now.numbers c.sweep.new.heights.numbers c.region-region.ensures.lawful.heights c.sweep.ensures.swept
