use Rattle.std.proofs.Common.{rules}
use Rattle.tl_kept.proofs.Words.{begun-more}
use Rattle.tl_kept.proofs.kept.push_times.Goals as goal

pub loop-time-preserved : goal.loop-time-preserved
loop-time-preserved g c = record {
  begun = rw (c.push_time.ensures.items, c.loop-time.invariant.same_function) (begun-more _ _ _ _ c.loop-time.invariant.begun);
  capacity = search rules;
  same_words = search rules;
  same_function = search rules;
}
