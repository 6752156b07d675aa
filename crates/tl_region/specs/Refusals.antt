-- The refusal that a fault tells; want of memory tells none.
use Rattle.std.specs.Prelude.{Option, Some, None}
use Rattle.tl_formats.specs.RegionText.{RegionRefusal, bad_header, bad_byte, too_large, empty, parts, pinch, hole}
use Rattle.tl_region.specs.declared.fault.RegionFault.{RegionFault}
use Rattle.tl_region.specs.declared.fault.RegionFault.TheVariants.{BadHeader, BadByte, TooLarge, Empty, Parts, Pinch, Hole, OutOfMemory}

abbrev pub refusal_by : RegionFault → Option RegionRefusal
refusal_by BadHeader = Some bad_header
refusal_by (BadByte a) = Some (bad_byte a)
refusal_by TooLarge = Some too_large
refusal_by Empty = Some empty
refusal_by (Parts a) = Some (parts a)
refusal_by (Pinch v) = Some (pinch v)
refusal_by Hole = Some hole
refusal_by OutOfMemory = None
