use Rattle.std.proofs.Common.{arith}
use Rattle.tl_sweep.proofs.Apart.{found-places}
use Rattle.tl_sweep.proofs.blocks.next_block.Goals as goal

pub returns-clause-block : goal.returns-clause-block
returns-clause-block c =
    found-places c.args.places.now c.args.stride c.args.number c.loop-more.count c.min-most.result c.requires.apart c.requires.number c.loop-more.invariant.some c.loop-more.invariant.few
    (omega (arith, c.min-most.ensures)) c.loop-more.invariant.last
