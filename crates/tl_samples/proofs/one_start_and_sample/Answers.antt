use Rattle.tl_samples.proofs.Samples.{sample-one_start, sample-one, sample-not_late}
use Rattle.tl_samples.proofs.one_start_and_sample.Goals as goal

pub returns : goal.returns
returns c = record { start = sample-one_start; sample = sample-one; never_late = sample-not_late }
