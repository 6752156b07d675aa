-- The corners of a region as the places of a graph. A corner's place is that of its number among the heights.
use Rattle.std.specs.Prelude.{ℕ, ◌+◌, ◌/◌, ◌%◌, Bool, List, map, filter, Option, Some, None, if◌then◌else◌}
use Rattle.tl_lists.specs.Lists.{present}
use Rattle.tl_definitions.specs.declared.Corner.{Corner}
use Rattle.tl_definitions.specs.Lattice.{corner, steps_in}
use Rattle.tl_definitions.specs.Region.{Region, is_corner_of, steps, is_step}
use Rattle.tl_definitions.specs.Heights.{height_count}
use Rattle.tl_grid.specs.Survey.{place_in}
use Rattle.tl_search.specs.Graphs.{GraphMeaning, reversed}

-- the place of a corner, and the corner of a place
abbrev pub place : Region → Corner → ℕ
place R v = place_in (R.columns + 2) v

abbrev pub corner_of : Region → ℕ → Corner
corner_of R p = corner (p / (R.columns + 2)) (p % (R.columns + 2))

-- the directed steps to a corner along edges of cells of the region: the corners from which they come
abbrev pub steps_to : Region → Corner → List Corner
steps_to R v = filter (λ u. is_step R u v) (present (steps_in R.kind v))

abbrev pub graph_of : Region → GraphMeaning
graph_of R = record {
  count = height_count R;
  is_place = λ p. is_corner_of R (corner_of R p);
  steps = λ p. map (place R) (steps R (corner_of R p));
  back = λ p. map (place R) (steps_to R (corner_of R p));
}

-- the same with its steps turned round, where that is asked for
abbrev pub run_of : Bool → Region → GraphMeaning
run_of turned R = if turned then reversed (graph_of R) else graph_of R

-- the place of a corner that passes a test
abbrev pub place_if : Region → (Corner → Bool) → Option Corner → Option ℕ
place_if R test None = None
place_if R test (Some v) = if test v then Some (place R v) else None
