use Rattle.std.proofs.Common.{◌≡◌, ◌≤◌, ◌+◌, ◌-◌, ◌*◌, get_or}
use Rattle.tl_sweep.proofs.blocks.next_block.Given as goal

abbrev pub invariant-loop-more : goal.invariant-loop-more
invariant-loop-more l = record {
  some : 1 ≤ l.count;
  few : l.count ≤ l.most;
  last : get_or l.rest (l.count - 1) 0 ≡ l.place + l.stride * (l.count - 1);
}
