-- Why no cut is made of a list of rows.
use Rattle.std.specs.Prelude.{ℕ, List}
use Rattle.tl_bands.specs.declared.fault.CutFault.{CutFault}
use Rattle.tl_bands.specs.declared.fault.CutFault.TheVariants.{BadFirst, OutOfMemory}
use Rattle.tl_bands.specs.Cuts.{IsCut, IsBadFirst}

-- a bad first row, or want of memory for a cut
abbrev pub IsCutFault : ℕ → List ℕ → CutFault → Type 0
IsCutFault rows firsts (BadFirst i) = IsBadFirst rows firsts i
IsCutFault rows firsts OutOfMemory = IsCut rows firsts
