-- What one read of a source gives, and what reading a source to its end gives.
use Rattle.std.specs.Prelude.{◌≡◌, ℕ, ◌+◌, ◌≤◌, List, [], length, take, Option}
use Rattle.std.specs.Io.KnownBytes.{Consumes, Keeps, IsAtEnd}
use Rattle.tl_io.specs.declared.source.Took.{Took}
use Rattle.tl_io.specs.declared.source.Took.TheVariants.{Bytes, End, Failed}
use Rattle.tl_io.specs.declared.reading.InFault.{InFault}
use Rattle.tl_io.specs.declared.reading.InFault.TheVariants.{ReadFault, InputTooLong, OutOfMemory}

-- the bytes that a read gave, from the buffer after it
abbrev pub given_by : Took → List ℕ → List ℕ
given_by (Bytes n) buf = take n buf
given_by End buf = []
given_by Failed buf = []

-- at least one byte, and no more than the buffer has
abbrev pub IsGivenCount : Took → List ℕ → Type 0
IsGivenCount (Bytes n) buf = (1 ≤ n) × (n ≤ length buf)
IsGivenCount End buf = Unit {0}
IsGivenCount Failed buf = Unit {0}

-- The answer to a read is what became of the bytes that a reader tells: those that were given were taken; or none
-- were, and none is left; or none were.
abbrev pub IsReadOf : Took → Option (List ℕ) → Option (List ℕ) → List ℕ → Type 0
IsReadOf (Bytes n) before now buf = Consumes before now (take n buf)
IsReadOf End before now buf = Consumes before now [] × IsAtEnd now
IsReadOf Failed before now buf = Keeps before now

-- how many bytes were taken where reading a source to its end stopped for this cause
abbrev pub IsStopAfter : ℕ → InFault → ℕ → Type 0
IsStopAfter limit ReadFault taken = taken ≤ limit
IsStopAfter limit InputTooLong taken = taken ≡ limit + 1
IsStopAfter limit OutOfMemory taken = taken ≤ limit
