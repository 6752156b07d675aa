use Rattle.tl_closing.proofs.Closing.{accepted-closing, potential-closes}
use Rattle.tl_closing.proofs.closing_lemma.Goals as goal

pub returns : goal.returns
returns c = record { one_potential = accepted-closing; no_other = potential-closes }
