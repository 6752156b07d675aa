use Rattle.std.proofs.lemmas.List.{length-take}
use Rattle.std.proofs.Common.{◌+◌, ◌++◌, take, arith}
use Rattle.tl_io.proofs.Known.{given_more, length-append_take}
use Rattle.tl_io.proofs.reading.read_all.Goals as goal

pub returns-then-count-limit-clause-stopped : goal.returns-then-count-limit-clause-stopped
returns-then-count-limit-clause-stopped g c =
    let xs = c.loop-count.bytes.items in
    let n = c.in-Bytes.count in
    let buf = c.read.new.buf in (
      xs ++ take n buf,
      given_more _ _ _ xs (take n buf) c.loop-count.invariant.given c.in-Bytes.ensures.bytes,
      omega (arith, length-append_take xs buf n c.in-Bytes.ensures.count.1, c.in-Bytes.ensures.count.1, c.read.auto.buf, length-take (c.min-room.result + 1) c.loop-count.piece),
    )

pub returns-then-is_err-clause-stopped : goal.returns-then-is_err-clause-stopped
returns-then-is_err-clause-stopped g c =
    let xs = c.loop-count.bytes.items in
    let n = c.in-Bytes.count in
    let buf = c.read.new.buf in (
      xs ++ take n buf,
      given_more _ _ _ xs (take n buf) c.loop-count.invariant.given c.in-Bytes.ensures.bytes,
      omega (arith, length-append_take xs buf n c.in-Bytes.ensures.count.1),
    )
