use Rattle.std.proofs.Common.{refl}
use Rattle.tl_chain.proofs.examples.ladder.tests.ends_that_meet_on_the_highest_rung_go_down_from_it.Goals as goal

pub new-ladder-requires-clause-high_rung : goal.new-ladder-requires-clause-high_rung
new-ladder-requires-clause-high_rung g c = record { count = 2; reached = refl }
