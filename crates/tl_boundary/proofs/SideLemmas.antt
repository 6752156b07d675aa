-- The sides of a circuit: the corners from which they go, how many there are, and the sums of their signs.
use Rattle.std.proofs.Common.{w8, ◌≡◌, ℕ, ◌+◌, ◌<◌, ◌≤◌, Bool, true, false, not, cond, List, [], ◌∷◌, map, length, get_or, Some, None, refl, sym, ◌∙◌, ap, subst, arith, ℤ}
use mir.Val.{to_z, of_z}
use Rattle.std.specs.Prelude.{position, slice_get, option_map}
use Rattle.std.specs.List.{position_or_len}
use Rattle.std.proofs.lemmas.Bool.{lt-ltb, le-ltb}
use Rattle.std.proofs.lemmas.List.{length-map}
use Rattle.std.proofs.lemmas.List.Sums.{position_or_len_is}
use Rattle.std.proofs.lemmas.Option.{slice_get-map, slice_get-get_or}
use Rattle.std.proofs.Math.Nat.{mul-le-mul}
use Rattle.tl_definitions.specs.declared.Corner.{Corner}
use Rattle.tl_definitions.specs.declared.Kind.{Kind}
use Rattle.tl_definitions.specs.declared.TheConstants.{SIDE_LIMIT}
use Rattle.tl_definitions.specs.Lattice.{corner, corner_eq, Side}
use Rattle.tl_definitions.specs.Limits.{most_corners}
use Rattle.tl_definitions.specs.Region.{Region, corner_rows}
use Rattle.tl_definitions.specs.Accepted.{IsCircuit, circuit_corners}
use Rattle.tl_definitions.specs.Obstruction.{sign, prefix}
use Rattle.tl_lists.specs.Lists.{upto}
use Rattle.tl_definitions.proofs.Circuits.{boundary-within}
use Rattle.tl_definitions.proofs.CornerRows.{any-corner_rows, length-corner_rows}
use Rattle.tl_definitions.proofs.Corners.{corner_eq-same, corner_eq-refl}
use Rattle.tl_definitions.proofs.Walks.{corner-In}
use Rattle.tl_lists.proofs.Distinct.{Distinct-from, length-without}
use Rattle.tl_lists.proofs.Members.{In, In-map_parts}
use Rattle.tl_closing.proofs.Stated.{Distinct-cells, walk-boundary}
use Rattle.tl_grid.specs.Grid.{IsGrid}
use Rattle.tl_grid.specs.Sides.{side_by}
use Rattle.tl_grid.specs.declared.walk.BoundaryStep.{BoundaryStep}
use Rattle.tl_boundary.proofs.Prefixes.{IsNextSum, next_sum}
use Rattle.tl_boundary.specs.Walk.{HasPrefixes}

-- the side of a step, and the corner from which it goes
pub side-at : (kind : Kind) (steps : List BoundaryStep) (k : ℕ) (s : BoundaryStep) → slice_get steps k ≡ Some s → slice_get (map (side_by kind) steps) k ≡ Some (side_by kind s)
side-at kind steps k s e = slice_get-map (side_by kind) steps k ∙ ap (option_map (side_by kind)) e

pub corner-at : (kind : Kind) (steps : List BoundaryStep) (k : ℕ) (s : BoundaryStep) → slice_get steps k ≡ Some s
    → slice_get (circuit_corners (map (side_by kind) steps)) k ≡ Some (corner s.r s.x)
corner-at kind steps k s e = slice_get-map (λ (t : Side). t.from) (map (side_by kind) steps) k ∙ ap (option_map (λ (t : Side). t.from)) (side-at kind steps k s e)

-- ---- the place of a corner among those of the steps

places-mapped : {A B : Type 0} (p : B → Bool) (f : A → B) (xs : List A) → position_or_len p (map f xs) ≡ position_or_len (λ (x : A). p (f x)) xs
places-mapped p f [] = refl
places-mapped p f (x ∷ xs) = ap (λ (n : ℕ). cond (not (p (f x))) (1 + n) 0) (places-mapped p f xs)

-- whether the step leaves the corner
abbrev pub leaves : Corner → BoundaryStep → Bool
leaves v s = corner_eq v (corner s.r s.x)

module _ (kind : Kind) (steps : List BoundaryStep) (v : Corner) where
  corners-place : position_or_len (corner_eq v) (circuit_corners (map (side_by kind) steps)) ≡ position_or_len (leaves v) steps
  corners-place = places-mapped (corner_eq v) (λ (t : Side). t.from) (map (side_by kind) steps) ∙ places-mapped (λ (t : Side). corner_eq v t.from) (side_by kind) steps

  corners-count : length (circuit_corners (map (side_by kind) steps)) ≡ length steps
  corners-count = length-map (map (side_by kind) steps) (λ (t : Side). t.from) ∙ length-map steps (side_by kind)

  module _ (k : ℕ) (d : BoundaryStep) (before : (j : ℕ) → j < k → leaves v (get_or steps j d) ≡ false) where
    pub position-found : k < length steps → leaves v (get_or steps k d) ≡ true → position (corner_eq v) (circuit_corners (map (side_by kind) steps)) ≡ Some k
    position-found h here =
        let place : position_or_len (corner_eq v) (circuit_corners (map (side_by kind) steps)) ≡ k =
        corners-place ∙ position_or_len_is (leaves v) steps k d (omega (arith, h)) before (λ _. here) in
        rw (place, corners-count, lt-ltb k (length steps) h) refl

    pub position-none : length steps ≤ k → k ≤ length steps → position (corner_eq v) (circuit_corners (map (side_by kind) steps)) ≡ None
    position-none h l =
        let place : position_or_len (corner_eq v) (circuit_corners (map (side_by kind) steps)) ≡ k =
        corners-place ∙ position_or_len_is (leaves v) steps k d l before (λ t. absurd (omega (arith, h, t))) in
        rw (place, corners-count, le-ltb k (length steps) h) refl

-- ---- how many sides there are

module _ (R : Region) (sides : List Side) (is_grid : IsGrid R) (circuit : IsCircuit R sides) where
  -- there are no more of them than corner places
  pub few-sides : length sides ≤ most_corners
  few-sides =
      let rows : R.rows + 1 ≤ SIDE_LIMIT + 1 = omega (arith, is_grid.rows_within) in
      let columns : R.columns + 2 ≤ SIDE_LIMIT + 2 = omega (arith, is_grid.columns_within) in
      let once = Distinct-from corner_eq corner_eq-refl (circuit_corners sides) circuit.once in
      let short = length-without corner_eq corner_eq-same corner_eq-refl (circuit_corners sides) (corner_rows (R.columns + 2) (R.rows + 1)) once place in
      omega (arith, short, length-map sides (λ (s : Side). s.from), length-corner_rows (R.columns + 2) (R.rows + 1), mul-le-mul rows columns)
    where
      within : (v : Corner) → In v (circuit_corners sides) → (v.r < R.rows + 1) × (v.x < R.columns + 2)
      within v i =
          let (s, j, same) = In-map_parts (λ (s : Side). s.from) v sides i in
          let p = boundary-within R s is_grid.placed (walk-boundary R (Distinct-cells R is_grid.placed) sides circuit s j) in
          subst (λ (u : Corner). (u.r < R.rows + 1) × (u.x < R.columns + 2)) (sym same) (p.0, p.1)

      place : (v : Corner) → In v (circuit_corners sides) → In v (corner_rows (R.columns + 2) (R.rows + 1))
      place v i =
          let p = within v i in
          corner-In v (corner_rows (R.columns + 2) (R.rows + 1))
          (any-corner_rows v (R.columns + 2) (R.rows + 1) ∙ rw (lt-ltb v.r (R.rows + 1) (p.0), lt-ltb v.x (R.columns + 2) (p.1)) refl)

-- ---- a turn of the loop over its steps

module _ (R : Region) (steps : List BoundaryStep) (is_grid : IsGrid R) (circuit : IsCircuit R (map (side_by R.kind) steps)) (k : ℕ) where
  abbrev walk : List Side
  walk = map (side_by R.kind) steps

  -- all are passed
  pub all-prefixes : (sums : List ℤ) → length steps ≡ k → sums ≡ map (prefix walk) (upto (k + 1)) → HasPrefixes walk sums
  all-prefixes sums all e = record {
    few = few-sides R walk is_grid circuit;
    prefixes = e ∙ ap (λ (n : ℕ). map (prefix walk) (upto (n + 1))) (sym (length-map steps (side_by R.kind) ∙ all));
  }

  pub sum-here : k < length steps → (kind : Kind) (sum more z : ℤ) → kind ≡ R.kind → sum ≡ prefix walk k → more ≡ to_z w8 (of_z w8 z)
      → z ≡ sign (side_by kind (get_or steps k (record { r = 0; x = 0; dart = 0 }))) → IsNextSum walk k sum more
  sum-here h kind sum more z same e f g =
      next_sum walk k (side_by R.kind step) sum more (side-at R.kind steps k step (slice_get-get_or steps k none h)) few e
      (f ∙ ap (λ (y : ℤ). to_z w8 (of_z w8 y)) (g ∙ ap (λ (a : Kind). sign (side_by a step)) same))
    where
      none : BoundaryStep
      none = record { r = 0; x = 0; dart = 0 }

      step : BoundaryStep
      step = get_or steps k none

      few : k ≤ most_corners
      few = omega (arith, h, few-sides R walk is_grid circuit, length-map steps (side_by R.kind))
