use Rattle.tl_samples.proofs.Put.{put_high-stands_high, put_low-stands_low}
use Rattle.tl_samples.proofs.putting_what_stands_changes_nothing.Goals as goal

pub returns : goal.returns
returns c = record { high = put_high-stands_high; low = put_low-stands_low }
