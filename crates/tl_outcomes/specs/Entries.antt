-- What is told of a sample: a text, and whether it is late.
use Rattle.std.specs.Prelude.{◌≡◌, ◌⊎◌, ℕ, Bool, true, false, List, ◌++◌, Some, None}
use Rattle.tl_bits.specs.Bits.{bits_of}
use Rattle.tl_definitions.specs.declared.Tile.{Tile}
use Rattle.tl_definitions.specs.Flip.{IsBottom, IsFlipDistance}
use Rattle.tl_definitions.specs.Region.{Region}
use Rattle.tl_definitions.specs.Sweep.{IsSample, IsLate}
use Rattle.tl_formats.specs.Drawing.{drawing}
use Rattle.tl_text.specs.SampleLine.{sample_line}
use Rattle.tl_text.specs.declared.SampleJob.{SampleJob}

-- what is told of one number
pub record Entry : Type 0 where
  pub text : List ℕ
  pub is_late : Bool

-- which entries a number may have
abbrev pub Entries : Type 1
Entries = ℕ → Entry → Type 0

abbrev pub on_time : List ℕ → Entry
on_time text = record { text = text; is_late = false }

abbrev pub too_late : ℕ → Entry
too_late n = record { text = sample_line n None None; is_late = true }

-- which texts the sample of a number may have, by its number, its start and its tiling
abbrev pub Texts : Type 1
Texts = ℕ → ℕ → List Tile → List ℕ → Type 0

-- a text of the sample of a number; or that it is late
abbrev pub OfOutcome : Region → SampleJob → Texts → Entries
OfOutcome R job Text n e =
    ((T : ℕ) × (S : List Tile) × IsSample R (bits_of R job.seed n) job.bound T S × (text : List ℕ) × Text n T S text × (e ≡ on_time text))
    ⊎ (IsLate R (bits_of R job.seed n) job.bound × (e ≡ too_late n))

-- ---- drawn samples

-- the head line of a sample, with its start, and its drawing
abbrev pub IsDrawn : Region → Texts
IsDrawn R n T S text = text ≡ sample_line n (Some T) None ++ drawing R S

abbrev pub DrawnEntries : Region → SampleJob → Entries
DrawnEntries R job = OfOutcome R job (IsDrawn R)

-- ---- ranked samples

-- the flip distance from the bottom tiling to this one
abbrev pub IsRank : Region → List Tile → ℕ → Type 0
IsRank R S rank = (B : List Tile) × IsBottom R B × IsFlipDistance R B S rank

-- the head line of a sample, with its start and its rank
abbrev pub IsRanked : Region → Texts
IsRanked R n T S text = (rank : ℕ) × IsRank R S rank × (text ≡ sample_line n (Some T) (Some rank))

abbrev pub RankedEntries : Region → SampleJob → Entries
RankedEntries R job = OfOutcome R job (IsRanked R)
