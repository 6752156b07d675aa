-- Where the prefixes of two corners of the circuit don't fit.
use Rattle.std.specs.Prelude.{◌≡◌, ℕ, ◌<◌, List, length, slice_get, false, None}
use Rattle.std.specs.List.{last_or}
use Rattle.tl_definitions.specs.declared.Corner.{Corner}
use Rattle.tl_definitions.specs.Lattice.{Side}
use Rattle.tl_definitions.specs.Region.{Region}
use Rattle.tl_definitions.specs.Accepted.{circuit_corners}
use Rattle.tl_definitions.specs.Obstruction as why
use Rattle.tl_search.specs.declared.spreading.Source.{Source}
use Rattle.tl_search.specs.Spreading.{IsUndercut}
use Rattle.tl_extreme.specs.CornerGraph.{graph_of}
use Rattle.tl_extreme.specs.Sources.{AreFromCircuit}

-- a path of places that undercuts a source among the corners of the circuit
abbrev pub IsUndercutOf : Region → List Side → List ℕ → Type 0
IsUndercutOf R walk path = (sources : List Source) × AreFromCircuit R walk false sources × IsUndercut (graph_of R) sources path

-- a path begins at one place of the circuit and ends at another
pub record AreEndsAt (walk : List Side) (path : List Corner) (k l : ℕ) : Type 0 where
  pub k_on_circuit : k < length walk
  pub l_on_circuit : l < length walk
  pub begins : slice_get path 0 ≡ slice_get (circuit_corners walk) k
  pub ends : last_or None path ≡ slice_get (circuit_corners walk) l

abbrev pub HasEndsOn : List Side → List Corner → Type 0
HasEndsOn walk path = (k : ℕ) × (l : ℕ) × AreEndsAt walk path k l

abbrev pub IsGapForm : why.Obstruction → Type 0
IsGapForm (why.Open n) = ⊥
IsGapForm (why.Gap rise path) = Unit {0}
