-- What one look at each corner of a region tells.
use Rattle.std.specs.Prelude.{◌≡◌, ℕ, ◌+◌, ◌*◌, ◌<◌, Bool, not, ◌==◌, if◌then◌else◌, List, [], map, length, filter, find, count_by, slice_index}
use Rattle.std.specs.List.{list_any, sum_by}
use Rattle.tl_definitions.specs.declared.Corner.{Corner}
use Rattle.tl_definitions.specs.Lattice.{corner_eq, is_corner}
use Rattle.tl_definitions.specs.Region.{Region, corner_places, inner_corners}
use Rattle.tl_definitions.specs.Accepted.{is_pinch, corner_count, edge_count}
use Rattle.tl_definitions.specs.Boundary.{is_boundary_corner}
use Rattle.tl_grid.specs.declared.patterns.RingFacts.{RingFacts}
use Rattle.tl_grid.specs.declared.patterns.TheConstants.{NO_EXIT}
use Rattle.tl_grid.specs.declared.survey.Survey.{Survey}
use Rattle.tl_grid.specs.Patterns.{facts_of, exit_of}

-- the place of a corner among all places of rows of this width
abbrev pub place_in : ℕ → Corner → ℕ
place_in width v = v.r * width + v.x

-- the places of the inner corners, in raster order
abbrev pub inner_places : Region → List ℕ
inner_places R = map (place_in (R.columns + 2)) (inner_corners R)

-- the number of a corner's first leaving dart, where it is a corner that hasn't been passed
abbrev pub exit_left : Region → List Corner → Corner → ℕ
exit_left R passed v = if is_corner R.kind v then if list_any (corner_eq v) passed then NO_EXIT else exit_of R v else NO_EXIT

-- these numbers, for each corner place
pub record AreExitsLeft (R : Region) (passed : List Corner) (exits : List ℕ) : Type 0 where
  pub size : length exits ≡ (R.rows + 1) * (R.columns + 2)
  pub at : (v : Corner) → v.r < R.rows + 1 → v.x < R.columns + 2
      → slice_index exits (v.r * (R.columns + 2) + v.x) ≡ exit_left R passed v

-- the first pinch and the first boundary corner; the numbers of boundary corners, of corners and of edges; the inner
-- corners; and the exits
pub record IsSurveyOf (R : Region) (s : Survey) : Type 0 where
  pub pinch : s.pinch ≡ find (is_pinch R) (corner_places R)
  pub start : s.start ≡ find (is_boundary_corner R) (corner_places R)
  pub boundary : s.boundary ≡ length (filter (is_boundary_corner R) (corner_places R))
  pub corners : s.corners ≡ corner_count R
  pub edges : s.edges ≡ edge_count R
  pub inner : s.inner.items ≡ inner_places R
  pub exits : AreExitsLeft R [] s.exits.items

-- ---- the same of some places

abbrev pub has_exit : RingFacts → Bool
has_exit f = not (f.exit == NO_EXIT)

pub record IsSurveyAmong (R : Region) (seen : List Corner) (s : Survey) : Type 0 where
  pub pinch : s.pinch ≡ find (λ v. (facts_of R v).is_pinch) seen
  pub start : s.start ≡ find (λ v. has_exit (facts_of R v)) seen
  pub boundary : s.boundary ≡ count_by (λ v. has_exit (facts_of R v)) seen
  pub corners : s.corners ≡ count_by (λ v. (facts_of R v).is_touched) seen
  pub edges : s.edges ≡ sum_by (λ v. (facts_of R v).steps) seen
  pub inner : s.inner.items ≡ map (place_in (R.columns + 2)) (filter (λ v. (facts_of R v).is_inner) seen)
  pub exits : s.exits.items ≡ map (λ v. (facts_of R v).exit) seen
