use Rattle.tl_samples.proofs.Samples.{sample-or-late}
use Rattle.tl_samples.proofs.each_sample_has_a_start_or_is_late.Goals as goal

pub returns : goal.returns
returns c = record { either = sample-or-late }
