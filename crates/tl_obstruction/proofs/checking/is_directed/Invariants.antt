use Rattle.std.proofs.Common.{◌≡◌, ◌-◌, drop}
use Rattle.tl_definitions.specs.Region.{is_step as is_step_of}
use Rattle.tl_lists.specs.Lists.{linked}
use Rattle.tl_obstruction.proofs.checking.is_directed.Given as goal

abbrev pub invariant-loop-k : goal.invariant-loop-k
invariant-loop-k l = linked (is_step_of l.region) l.path ≡ linked (is_step_of l.region) (drop (l.k - 1) l.path)
