-- The statuses by their codes.
use Rattle.std.specs.Prelude.{ℕ}
use Rattle.tl_run.specs.declared.status.Status.{Status}
use Rattle.tl_run.specs.declared.status.Status.TheVariants.{Answered, Refuted, Usage, Input, ReadFault, WriteFault, OutOfMemory, Late, PathTooLong, TooLarge}

abbrev pub code_of : Status → ℕ
code_of Answered = 0
code_of Refuted = 1
code_of Usage = 2
code_of Input = 3
code_of ReadFault = 4
code_of WriteFault = 5
code_of OutOfMemory = 6
code_of Late = 7
code_of PathTooLong = 8
code_of TooLarge = 9
