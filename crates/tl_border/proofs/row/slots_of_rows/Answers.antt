use Rattle.tl_border.proofs.Bits.{slots-length, slots-each, slots-made}
use Rattle.tl_border.proofs.row.slots_of_rows.Goals as goal

pub returns : goal.returns
returns c = record { length = slots-length; each = slots-each; made = slots-made }
