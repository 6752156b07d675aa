-- The cells round a corner as one number, and what is read off it.
use Rattle.std.specs.Prelude.{◌≡◌, ℕ, ◌+◌, ◌*◌, ◌/◌, ◌%◌, nat_le, Bool, true, false, not, ◌&&◌, ◌||◌, ◌==◌, if◌then◌else◌, List, map, length, count_by, position, unwrap_or}
use Rattle.std.specs.List.{list_any, list_all}
use Rattle.tl_definitions.specs.declared.Kind.{Kind}
use Rattle.tl_definitions.specs.declared.Kind.TheVariants.{Square, Triangle}
use Rattle.tl_definitions.specs.declared.Corner.{Corner}
use Rattle.tl_definitions.specs.declared.rings.Back.{Back}
use Rattle.tl_definitions.specs.declared.rings.Dart.{Dart}
use Rattle.tl_definitions.specs.Lattice.{is_corner}
use Rattle.tl_definitions.specs.Region.{Region, is_inner, is_corner_of, steps}
use Rattle.tl_definitions.specs.Accepted.{is_pinch}
use Rattle.tl_definitions.specs.Darts.{darts, leaves}
use Rattle.tl_lists.specs.Lists.{upto}
use Rattle.tl_grid.specs.declared.patterns.RingFacts.{RingFacts}
use Rattle.tl_grid.specs.declared.patterns.TheConstants.{NO_EXIT}

-- ---- a pattern: two bits for the corner's own column and for each of the two before it, the lower one for the cell
-- ---- in the corner's row and the higher one for the cell above

abbrev pub weight : Back → ℕ
weight b = (if b.columns == 0 then 1 else if b.columns == 1 then 4 else 16) * (if b.rows == 0 then 1 else 2)

-- whether the cell at this place of the ring is in the region
abbrev pub has_place : ℕ → Back → Bool
has_place p b = (p / weight b) % 2 == 1

-- the pattern of the next corner in the row, whose own column has these cells
abbrev pub next_pattern : ℕ → Bool → Bool → ℕ
next_pattern p above below = (p % 16) * 4 + (if above then 2 else 0) + (if below then 1 else 0)

-- whether the boundary leaves the corner by the dart, whether it comes by it, and whether it is an edge
abbrev pub leaves_in : ℕ → Dart → Bool
leaves_in p g = has_place p g.left && not (has_place p g.right)

abbrev pub enters_in : ℕ → Dart → Bool
enters_in p g = not (has_place p g.left) && has_place p g.right

abbrev pub is_edge_in : ℕ → Dart → Bool
is_edge_in p g = has_place p g.left || has_place p g.right

-- ---- what a pattern tells of a corner, where the sum of its row and its column has this remainder by 2

abbrev pub is_corner_by : Kind → ℕ → Bool
is_corner_by Square parity = true
is_corner_by Triangle parity = parity == 1

abbrev pub is_outward_by : ℕ → Dart → Bool
is_outward_by parity g = (parity + (g.left.rows + g.left.columns)) % 2 == 0

-- of a pair that is no corner of the lattice
abbrev pub no_facts : RingFacts
no_facts = record { is_pinch = false; is_inner = false; is_touched = false; steps = 0; exit = NO_EXIT }

abbrev pub facts_by : Kind → ℕ → ℕ → RingFacts
facts_by k parity p =
    if is_corner_by k parity
    then record {
      is_pinch = nat_le 2 (count_by (enters_in p) (darts k));
      is_inner = list_all (λ g. has_place p g.left) (darts k);
      is_touched = list_any (λ g. has_place p g.left) (darts k);
      steps = count_by (λ g. is_outward_by parity g && is_edge_in p g) (darts k);
      exit = unwrap_or (position (leaves_in p) (darts k)) NO_EXIT;
    }
    else no_facts

-- the facts of all patterns, first for the remainder 0 and then for 1
abbrev pub AreAllFacts : Kind → List RingFacts → Type 0
AreAllFacts k all = all ≡ map (λ i. facts_by k (i / 64) (i % 64)) (upto 128)

-- ---- the same of a corner of a region: what its ring tells of it

-- the number of the first dart by which the boundary leaves the corner
abbrev pub exit_of : Region → Corner → ℕ
exit_of R v = unwrap_or (position (leaves R v) (darts R.kind)) NO_EXIT

abbrev pub facts_of : Region → Corner → RingFacts
facts_of R v =
    if is_corner R.kind v
    then record {
      is_pinch = is_pinch R v;
      is_inner = is_inner R v;
      is_touched = is_corner_of R v;
      steps = length (steps R v);
      exit = exit_of R v;
    }
    else no_facts
