use Rattle.tl_lines.proofs.EmptyLines.{none_left}
use Rattle.tl_lines.proofs.rest_is_empty.Goals as goal

pub returns : goal.returns
returns c = none_left c.args.bytes.now c.skip_empty_lines.result.now c.is_empty.result c.skip_empty_lines.ensures.rest c.is_empty.ensures
