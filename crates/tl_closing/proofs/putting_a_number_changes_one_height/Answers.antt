use Rattle.tl_closing.proofs.PutNumbers.{put-changed}
use Rattle.tl_closing.proofs.putting_a_number_changes_one_height.Goals as goal

pub returns : goal.returns
returns c R numbers v more placed heights of_region = put-changed R numbers v more placed heights of_region
