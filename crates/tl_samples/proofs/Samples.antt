-- A region with a tiling has a sample, or none of the starts gathers.
use Rattle.std.proofs.Common.{◌≡◌, ℕ, ◌⊎◌, inl, inr, Bool, List, sym, ◌∙◌, subst}
use Rattle.tl_definitions.specs.declared.Tile.{Tile}
use Rattle.tl_definitions.specs.Region.{Region}
use Rattle.tl_definitions.specs.Accepted.{IsPlaced}
use Rattle.tl_definitions.specs.Tiling.{HasTiling}
use Rattle.tl_lists.specs.Powers.{IsLeastPower, NoPower}
use Rattle.tl_definitions.specs.Sweep.{carried, Gathers, IsSample, IsLate}
use Rattle.tl_lists.proofs.Powers.{same_power}
use Rattle.tl_samples.proofs.Sweeps.{carried-tiling}
use Rattle.tl_samples.proofs.LeastPower.{least-or-none, least-not_none}
use Rattle.tl_samples.proofs.Gathering.{gathers-or-not}

-- the tiling to which any one is carried from a start that gathers is the sample
start-sample : (R : Region) (bits : ℕ → ℕ → Bool) (bound T : ℕ) → IsPlaced R → (some : HasTiling R) → IsLeastPower (Gathers R bits) bound T
    → IsSample R bits bound T (carried R bits T some.0)
start-sample R bits bound T placed some start = record {
  start = start;
  tiling = carried-tiling R placed bits T some.0 some.1;
  common = λ A a. start.holds A some.0 a some.1;
}

pub sample-or-late : (R : Region) (bits : ℕ → ℕ → Bool) (bound : ℕ) → IsPlaced R → HasTiling R
    → ((T : ℕ) × (S : List Tile) × IsSample R bits bound T S) ⊎ IsLate R bits bound
sample-or-late R bits bound placed some = go (least-or-none (Gathers R bits) (λ T. gathers-or-not R bits T placed) bound)
  where
    go : ((T : ℕ) × IsLeastPower (Gathers R bits) bound T) ⊎ NoPower (Gathers R bits) bound → ((T : ℕ) × (S : List Tile) × IsSample R bits bound T S) ⊎ IsLate R bits bound
    go (inl (T, start)) = inl (T, carried R bits T some.0, start-sample R bits bound T placed some start)
    go (inr none) = inr none

pub sample-one_start : (R : Region) (bits : ℕ → ℕ → Bool) (bound T T' : ℕ) (S S' : List Tile) → IsSample R bits bound T S → IsSample R bits bound T' S' → T ≡ T'
sample-one_start R bits bound T T' S S' s s' = same_power (Gathers R bits) bound T T' s.start s'.start

pub sample-one : (R : Region) (bits : ℕ → ℕ → Bool) (bound T T' : ℕ) (S S' : List Tile) → IsSample R bits bound T S → IsSample R bits bound T' S' → S ≡ S'
sample-one R bits bound T T' S S' s s' =
    sym (s.common S s.tiling) ∙ subst (λ (n : ℕ). carried R bits n S ≡ S') (sym (sample-one_start R bits bound T T' S S' s s')) (s'.common S s.tiling)

pub sample-not_late : (R : Region) (bits : ℕ → ℕ → Bool) (bound T : ℕ) (S : List Tile) → IsSample R bits bound T S → IsLate R bits bound → ⊥
sample-not_late R bits bound T S s late = least-not_none (Gathers R bits) bound T s.start late
