use Rattle.std.proofs.Common.{◌∙◌, arith}
use Rattle.tl_text.proofs.SettingLemmas.{so_far-next}
use Rattle.tl_text.proofs.settings.settings_of.Goals as goal

pub loop-start-preserved : goal.loop-start-preserved
loop-start-preserved c = record {
  so_far = so_far-next c.loop-start.all.items _ c.in-Some.given c.args.words.now c.loop-start.start c.in-Some.taken c.in_ok-push.ensures.items (rw c.split_at.ensures.back at c.in-Some.ensures.next) ∙ c.loop-start.invariant.so_far;
  within = omega (arith, c.in-Some.ensures.taken, c.split_at.ensures.back_len);
}
