use Rattle.std.proofs.Common.{arith}
use Rattle.tl_layout.proofs.Free.{free-of}
use Rattle.tl_layout.proofs.slots.free_slots.Goals as goal

pub returns : goal.returns
returns c =
    free-of c.args.height c.args.lows.now c.loop-place.words.items (λ k. (c.type_inv.lows k).fits) (omega (arith, c.loop-place.invariant.size))
    (λ k h. c.loop-place.invariant.each k (omega (arith, h)))
