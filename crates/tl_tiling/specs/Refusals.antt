-- The refusal that a fault tells; want of memory tells none.
use Rattle.std.specs.Prelude.{Option, Some, None}
use Rattle.tl_formats.specs.Drawing.{DrawingRefusal, bad_letter, unmatched}
use Rattle.tl_tiling.specs.declared.fault.DrawFault.{DrawFault}
use Rattle.tl_tiling.specs.declared.fault.DrawFault.TheVariants.{BadLetter, Unmatched, OutOfMemory}

abbrev pub refusal_by : DrawFault → Option DrawingRefusal
refusal_by (BadLetter a) = Some (bad_letter a)
refusal_by (Unmatched a) = Some (unmatched a)
refusal_by OutOfMemory = None
