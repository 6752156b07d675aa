use Rattle.tl_closing.proofs.Stated.{heights-within_limits}
use Rattle.tl_steps.proofs.Small.{stepped-within_limits}
use Rattle.tl_steps.proofs.stepped_heights_are_small.Goals as goal

pub returns-clause-low : goal.returns-clause-low
returns-clause-low c R numbers v bit accepted rows columns lawful inner = (stepped-within_limits R numbers v bit accepted rows columns lawful inner).0

pub returns-clause-high : goal.returns-clause-high
returns-clause-high c R numbers v bit accepted rows columns lawful inner = (stepped-within_limits R numbers v bit accepted rows columns lawful inner).1

pub returns-clause-read_low : goal.returns-clause-read_low
returns-clause-read_low c R numbers v accepted rows columns lawful of_region = (heights-within_limits R numbers v accepted lawful rows columns of_region).0

pub returns-clause-read_high : goal.returns-clause-read_high
returns-clause-read_high c R numbers v accepted rows columns lawful of_region = (heights-within_limits R numbers v accepted lawful rows columns of_region).1
