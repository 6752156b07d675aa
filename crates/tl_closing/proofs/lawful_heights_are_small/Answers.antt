use Rattle.tl_closing.proofs.Bounds.{heights-small}
use Rattle.tl_closing.proofs.lawful_heights_are_small.Goals as goal

pub returns : goal.returns
returns c = record {
  below = λ R numbers v accepted lawful e. (heights-small R numbers accepted lawful v e).0;
  above = λ R numbers v accepted lawful e. (heights-small R numbers accepted lawful v e).1;
}
