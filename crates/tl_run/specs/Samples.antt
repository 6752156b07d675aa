-- What `sample` answers: the numbered samples of a region, each with its start, or why the region has no tiling.
use Rattle.std.specs.Prelude.{◌≡◌, ◌⊎◌, ℕ, ◌+◌, ◌*◌, true, false, nat_lt, List, [], ◌∷◌, MatchBool, codes, decimal}
use Rattle.tl_definitions.specs.Region.{Region}
use Rattle.tl_definitions.specs.Tiling.{HasTiling}
use Rattle.tl_formats.specs.Input.{first_section, rest_is_empty}
use Rattle.tl_formats.specs.RegionText.{IsRegionText}
use Rattle.tl_formats.specs.Texts.{line}
use Rattle.tl_outcomes.specs.Entries.{DrawnEntries}
use Rattle.tl_text.specs.declared.SampleJob.{SampleJob}
use Rattle.tl_run.specs.declared.sample.TheConstants.{SAMPLES_LIMIT}
use Rattle.tl_run.specs.Answers.{Answer, answer, Allows, Is}
use Rattle.tl_run.specs.Decide.{IsBlocked}
use Rattle.tl_run.specs.InEntries.{IsInEntries}
use Rattle.tl_run.specs.Readers.{OfRegion, AtEnd}

-- the samples of the numbers below the count, each once and in order
abbrev pub AreSamples : Region → SampleJob → Allows
AreSamples R job a = HasTiling R × IsInEntries (DrawnEntries R job) [] job.count a

-- ---- their size

-- how many bytes the drawings of all samples have
abbrev pub samples_size : Region → SampleJob → ℕ
samples_size R job = job.count * R.rows * (R.columns + 1)

abbrev pub too_large : ℕ → Answer
too_large size = answer (line (codes "too large" ∷ decimal size ∷ [])) 9

-- the drawings aren't too large together
abbrev pub WithinLimit : Region → SampleJob → Allows → Allows
WithinLimit R job P a =
    MatchBool (nat_lt SAMPLES_LIMIT (samples_size R job)) (Is (too_large (samples_size R job)) a) (P a)

-- the drawings are too large together
abbrev pub RefusesSize : Region → SampleJob → Allows
RefusesSize R job = WithinLimit R job (λ a. ⊥)

-- ---- their region

-- the region that a text is of, which nothing follows, and whose samples aren't too large
abbrev pub OfSampled : SampleJob → List ℕ → (Region → Allows) → Allows
OfSampled job text P = OfRegion text (λ R rest. AtEnd rest (WithinLimit R job (P R)))

-- the text is refused, or something follows it, or the samples are too large
abbrev pub RefusesSampled : SampleJob → List ℕ → Allows
RefusesSampled job text = OfSampled job text (λ R a. ⊥)

-- it is this region
pub record IsSampledText (job : SampleJob) (text : List ℕ) (R : Region) : Type 0 where
  pub lines : IsRegionText (first_section text).lines R
  pub end : rest_is_empty (first_section text).rest ≡ true
  pub within : nat_lt SAMPLES_LIMIT (samples_size R job) ≡ false

-- ---- the reply

-- the region has a tiling, and so samples; or it has none, for this reason
abbrev pub Sampled : Region → SampleJob → Allows
Sampled R job a = AreSamples R job a ⊎ IsBlocked R a

-- The workers and the bands have no part in it.
abbrev pub SampleReply : SampleJob → List ℕ → Allows
SampleReply job input = OfSampled job input (λ R. Sampled R job)
