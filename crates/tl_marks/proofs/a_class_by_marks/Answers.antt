use Rattle.tl_definitions.proofs.InnerNumbers.{inner-at}
use Rattle.tl_marks.proofs.Crossed.{mark-same}
use Rattle.tl_marks.proofs.Stepped.{mark-stepped}
use Rattle.tl_marks.proofs.a_class_by_marks.Goals as goal

pub returns : goal.returns
returns c = record {
  stepped = λ R numbers others bits k i v lawful swept at of_class. mark-stepped R numbers others lawful v (inner-at R v i at) (bits i) (swept.stepped i v at of_class);
  kept = λ R numbers others bits k w swept of_region other. mark-same R numbers others w (swept.kept w of_region other);
}
