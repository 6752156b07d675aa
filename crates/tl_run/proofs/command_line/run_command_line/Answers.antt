use Rattle.std.proofs.Common.{[]}
use Rattle.tl_run.specs.Replies.{asked, is_silent}
use Rattle.tl_run.proofs.RunLemmas.{runs-unread}
use Rattle.tl_run.proofs.command_line.run_command_line.Goals as goal

pub returns-in_default : goal.returns-in_default
returns-in_default g c = record { run = ([], runs-unread (asked []) (is_silent []) _ _) }

pub returns : goal.returns
returns g c = record { run = ([], runs-unread (asked []) (is_silent []) _ _) }
