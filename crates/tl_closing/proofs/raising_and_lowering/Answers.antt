use Rattle.tl_closing.proofs.Changed.{raised-lawful, lowered-lawful}
use Rattle.tl_closing.proofs.raising_and_lowering.Goals as goal

pub returns : goal.returns
returns c = record { raised = raised-lawful; lowered = lowered-lawful }
