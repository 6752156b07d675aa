-- What every command that words ask for keeps to.
use Rattle.std.specs.Prelude.{◌≤◌}
use Rattle.tl_text.specs.declared.Command.{Command}
use Rattle.tl_text.specs.declared.Command.TheVariants.{Sample, Gen}
use Rattle.tl_text.specs.Words.{max_order}
use Rattle.tl_outcomes.specs.Outcomes.{IsWithin}

-- the numbers of the samples, and the order of the shape
abbrev pub IsWithinRanges : Command → Type 0
IsWithinRanges (Sample job) = IsWithin job
IsWithinRanges (Gen gen) = (gen.order ≤ max_order gen.shape) × IsWithin gen.job
IsWithinRanges _ = Unit {0}
