use Rattle.std.proofs.Common.{◌+◌, ◌-◌, arith}
use Rattle.tl_bits.proofs.Rings.{holds_part, put_above}
use Rattle.tl_bits.proofs.stream.move_ring.Goals as goal

pub returns-then-k-end-clause-held : goal.returns-then-k-end-clause-held
returns-then-k-end-clause-held c =
    let end = c.args.held.first + c.args.held.count in
    let kept = holds_part c.requires.held (end - 64) end (omega arith) (omega arith) in
    put_above c.put_blocks.ensures.words kept (omega arith) (end - 64 + 128) (omega arith) (omega arith)
