-- The corners of the circuit as sources, and what a search makes of the heights.
use Rattle.std.specs.Prelude.{◌≡◌, ℕ, Bool, List, slice_get, Some, ℤ, pos, neg_ℤ, ◌≤ℤ◌, ◌^◌, if◌then◌else◌}
use Rattle.std.specs.Ordering.{int_eq}
use Rattle.tl_definitions.specs.declared.Corner.{Corner}
use Rattle.tl_definitions.specs.Lattice.{Side}
use Rattle.tl_definitions.specs.Region.{Region}
use Rattle.tl_definitions.specs.Accepted.{circuit_corners}
use Rattle.tl_definitions.specs.Obstruction.{prefix}
use Rattle.tl_search.specs.declared.spreading.Source.{Source}
use Rattle.tl_search.specs.declared.spreading.TheConstants.{UNREACHED}
use Rattle.tl_extreme.specs.CornerGraph.{place}

-- a number, or its negative
abbrev pub turned_by : Bool → ℤ → ℤ
turned_by negated z = if negated then neg_ℤ z else z

-- the source that a place of the circuit makes
abbrev pub IsSourceAt : Region → List Side → Bool → ℕ → Source → Type 0
IsSourceAt R walk negated k s =
    (v : Corner) × (slice_get (circuit_corners walk) k ≡ Some v) × (s.place ≡ place R v) × (s.number ≡ turned_by negated (prefix walk k))

-- a number that the search takes
abbrev pub IsSmall : Source → Type 0
IsSmall s = (neg_ℤ (pos (2 ^ 30)) ≤ℤ s.number) × (s.number ≤ℤ pos (2 ^ 30))

-- one source for each place of the circuit
pub record AreFromCircuit (R : Region) (walk : List Side) (negated : Bool) (sources : List Source) : Type 0 where
  pub from_place : (i : ℕ) (s : Source) → slice_get sources i ≡ Some s → (k : ℕ) × IsSourceAt R walk negated k s
  pub each_place : (k : ℕ) (v : Corner) → slice_get (circuit_corners walk) k ≡ Some v
      → (i : ℕ) × (s : Source) × (slice_get sources i ≡ Some s) × IsSourceAt R walk negated k s

-- the height that a number tells: itself or its negative, and 0 where no path leads
abbrev pub height_by : Bool → ℤ → ℤ
height_by negated z = if int_eq z (UNREACHED) then pos 0 else turned_by negated z
