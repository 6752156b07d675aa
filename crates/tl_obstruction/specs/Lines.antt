-- What the first line of a section says, and which line a fault names.
use Rattle.std.specs.Prelude.{ℕ, Option, Some, None}
use Rattle.tl_formats.specs.ObstructionText as text
use Rattle.tl_obstruction.specs.declared.fault.TextFault.{TextFault}
use Rattle.tl_obstruction.specs.declared.fault.TextFault.TheVariants.{BadLine, OutOfMemory}
use Rattle.tl_obstruction.specs.declared.reading.Head.{Head}
use Rattle.tl_obstruction.specs.declared.reading.Head.TheVariants.{Open, Gap}

abbrev pub head_by : Head → text.Head
head_by (Open total) = text.open_head total
head_by (Gap rise steps) = text.gap_head rise steps

-- the line that a fault names; want of memory names none
abbrev pub line_by : TextFault → Option ℕ
line_by (BadLine line) = Some line
line_by OutOfMemory = None
