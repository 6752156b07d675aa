use Rattle.std.proofs.Common.{ℕ, List, ◌≤◌, length, ◌∙◌, sym, subst}
use Rattle.tl_formats.specs.declared.TheConstants.{INPUT_LIMIT}
use Rattle.tl_run.proofs.SummaryLemmas.{shape_text-short}
use Rattle.tl_run.proofs.summary.region_of_shape.Goals as goal

pub region_to_sample-requires : goal.region_to_sample-requires
region_to_sample-requires c =
    subst (λ (l : List ℕ). length l ≤ INPUT_LIMIT) (sym (c.as_slice.ensures.value ∙ c.in_ok-text.ensures))
    (shape_text-short c.args.job.now.shape c.args.job.now.order c.requires)
