use Rattle.tl_samples.proofs.Gathering.{gathers-or-not}
use Rattle.tl_samples.proofs.gathering_is_decided.Goals as goal

pub returns : goal.returns
returns c = record { decided = gathers-or-not }
