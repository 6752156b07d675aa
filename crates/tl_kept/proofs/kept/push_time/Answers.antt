use Rattle.std.proofs.Common.{rules, ℕ, ◌∙◌, ap}
use Rattle.tl_kept.proofs.Words.{pushed-word}
use Rattle.tl_kept.proofs.kept.push_time.Goals as goal

pub loop-w-preserved : goal.loop-w-preserved
loop-w-preserved g c = record {
  items =
      c.push_reserved.ensures.items
      ∙ pushed-word (g.B.Bits.word_at c.args.bits.now c.args.time) (g.B.Bits.word_at c.loop-w.bits c.args.time) _ _ _ _
      c.loop-w.invariant.items c.word.ensures.value (ap (λ (f : ℕ → ℕ → ℕ). f c.args.time) c.loop-w.invariant.same_function);
  len = search rules;
  capacity = search rules;
  same_words = search rules;
  same_function = search rules;
}
