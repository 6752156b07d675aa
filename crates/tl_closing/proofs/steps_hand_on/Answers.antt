use Rattle.tl_closing.proofs.HandedOn.{handed-on}
use Rattle.tl_closing.proofs.steps_hand_on.Goals as goal

pub returns : goal.returns
returns c R holds v w accepted hands_on v_in w_in here = handed-on R holds v w accepted hands_on v_in w_in here
