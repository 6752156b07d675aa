-- Inner corners, by their places among all corner places.
use Rattle.std.proofs.Common.{◌≡◌, ℕ, ◌+◌, ◌<◌, Bool, true, length, get_or, Some, sym, ◌∙◌, ap, subst, arith}
use Rattle.std.specs.List.{All, list_all, list_any, slice_get}
use Rattle.std.proofs.lemmas.Bool.{and_parts}
use Rattle.std.proofs.lemmas.List.{get_or-map, length-map}
use Rattle.std.proofs.lemmas.List.Elements.{All-get_or, All-map, All-weaker, filter_passes}
use Rattle.std.proofs.lemmas.List.Folds.{Any-from_list_any}
use Rattle.std.proofs.lemmas.Nat.{div-mul-add, mod-mul-add}
use Rattle.std.proofs.lemmas.Option.{slice_get-get_or, slice_get_within}
use Rattle.tl_lists.proofs.Tests.{same_test, some_same}
use Rattle.tl_lists.proofs.Members.{any-In, In-any_of, In-filter_parts, In-map, In-map_parts}
use Rattle.tl_definitions.specs.declared.Corner.{Corner}
use Rattle.tl_definitions.specs.Lattice.{corner, corner_eq, is_corner, ring}
use Rattle.tl_definitions.specs.Region.{Region, corner_places, has_at, inner_corners, is_inner}
use Rattle.tl_definitions.specs.Accepted.{IsPlaced}
use Rattle.tl_definitions.proofs.Corners.{corner-same, corner_eq-same}
use Rattle.tl_definitions.proofs.InnerNumbers.{any-inner_corners, inner-among, inner-number}
use Rattle.tl_grid.specs.Survey.{inner_places, place_in}
use Rattle.tl_layout.specs.Layouts.{corner_by}

pub corner-by : (width : ℕ) (v : Corner) → v.x < width → corner_by width (place_in width v) ≡ v
corner-by width v h = corner-same (corner_by width (place_in width v)) v (div-mul-add v.r width v.x h) (mod-mul-add v.r width v.x h)

pub inner-by : (R : Region) (v : Corner) → IsPlaced R → is_inner R v ≡ true → corner_by (R.columns + 2) (place_in (R.columns + 2) v) ≡ v
inner-by R v placed inner = let p = inner-among R v placed inner in corner-by (R.columns + 2) v (omega (arith, p.column))

-- the place of the inner corner of a number
pub place-at : (R : Region) (i : ℕ) (v : Corner) → slice_get (inner_corners R) i ≡ Some v → get_or (inner_places R) i 0 ≡ place_in (R.columns + 2) v
place-at R i v e =
    get_or-map (place_in (R.columns + 2)) (inner_corners R) i (corner 0 0) 0 within
    ∙ ap (place_in (R.columns + 2)) (some_same (get_or (inner_corners R) i (corner 0 0)) v (sym (slice_get-get_or (inner_corners R) i (corner 0 0) within) ∙ e))
  where
    within : i < length (inner_corners R)
    within = slice_get_within (inner_corners R) i v e

pub places-count : (R : Region) → length (inner_places R) ≡ length (inner_corners R)
places-count R = length-map (inner_corners R) (place_in (R.columns + 2))

-- what holds of the place of each inner corner
pub all-inner : (R : Region) (P : ℕ → Type 0) → ((v : Corner) → is_inner R v ≡ true → P (place_in (R.columns + 2) v)) → All P (inner_places R)
all-inner R P each =
    All-map P (place_in (R.columns + 2)) (inner_corners R)
    (All-weaker (λ (v : Corner). is_inner R v ≡ true) (λ (v : Corner). P (place_in (R.columns + 2) v)) each (inner_corners R) (filter_passes (is_inner R) (corner_places R)))

pub at-inner : (R : Region) (P : ℕ → Type 0) (v : Corner) → IsPlaced R → All P (inner_places R) → is_inner R v ≡ true → P (place_in (R.columns + 2) v)
at-inner R P v placed each inner =
    let found = Any-from_list_any (corner_eq v) (inner_corners R) (any-inner_corners R v placed ∙ inner) in
    let u = found.1 in
    let is : u ≡ v = sym (corner_eq-same v u found.4) in
    let place : get_or (inner_places R) found.0 0 ≡ place_in (R.columns + 2) v =
    get_or-map (place_in (R.columns + 2)) (inner_corners R) found.0 u 0 found.2 ∙ ap (place_in (R.columns + 2)) (found.3 ∙ is) in
    subst P place (All-get_or P (inner_places R) found.0 0 (omega (arith, found.2, places-count R)) each)

-- a test of places that is one of inner corners
pub any-inner : (R : Region) (f : ℕ → Bool) (g : Corner → Bool) → ((v : Corner) → is_inner R v ≡ true → f (place_in (R.columns + 2) v) ≡ g v)
    → list_any f (inner_places R) ≡ list_any g (inner_corners R)
any-inner R f g same = same_test (list_any f (inner_places R)) (list_any g (inner_corners R)) to back
  where
    to : list_any f (inner_places R) ≡ true → list_any g (inner_corners R) ≡ true
    to t =
        let found = any-In f (inner_places R) t in
        let at = In-map_parts (place_in (R.columns + 2)) found.0 (inner_corners R) found.1 in
        let inner = (In-filter_parts (is_inner R) at.0 (corner_places R) at.1).1 in
        In-any_of g at.0 (inner_corners R) at.1 (sym (same at.0 inner) ∙ ap f (sym at.2) ∙ found.2)

    back : list_any g (inner_corners R) ≡ true → list_any f (inner_places R) ≡ true
    back t =
        let found = any-In g (inner_corners R) t in
        let inner = (In-filter_parts (is_inner R) found.0 (corner_places R) found.1).1 in
        In-any_of f (place_in (R.columns + 2) found.0) (inner_places R) (In-map (place_in (R.columns + 2)) found.0 (inner_corners R) found.1) (same found.0 inner ∙ found.2)

-- two numbers of one corner are the same
pub one-number : (R : Region) (i j : ℕ) (v : Corner) → slice_get (inner_corners R) i ≡ Some v → slice_get (inner_corners R) j ≡ Some v → i ≡ j
one-number R i j v e f = some_same i j (sym (inner-number R v i e) ∙ inner-number R v j f)

pub is_one : (R : Region) (v : Corner) → is_inner R v ≡ true → is_corner R.kind v ≡ true
is_one R v inner = (and_parts (is_corner R.kind v) (list_all (has_at R) (ring R.kind v)) inner).0
