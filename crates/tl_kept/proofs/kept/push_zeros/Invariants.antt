use Rattle.std.proofs.Common.{◌≡◌, ◌+◌, ◌++◌, replicate, vec_len}
use Rattle.std.specs.Vec.{vec_capacity}
use Rattle.tl_kept.proofs.kept.push_zeros.Given as goal

-- so many zeros are appended
abbrev pub invariant-loop : goal.invariant-loop
invariant-loop l = record {
  items : l.kept.items ≡ l.fn.kept.items ++ replicate l.counter 0;
  len : vec_len l.kept ≡ vec_len l.fn.kept + l.counter;
  capacity : vec_capacity l.kept ≡ vec_capacity l.fn.kept;
}
