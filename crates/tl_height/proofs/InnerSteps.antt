-- An inner corner and the ends of the steps from and to it, as corners of the region.
use Rattle.std.proofs.Common.{◌≡◌, ◌+◌, ◌<◌, ◌≤◌, inl, inr, true, List, [], ◌∷◌, Option, Some, None, refl, ◌∙◌, ap, subst, arith}
use Rattle.std.specs.Prelude.{All, IfSome, IsTrue}
use Rattle.std.proofs.lemmas.List.Elements.{All-nil, All-cons}
use Rattle.tl_definitions.specs.declared.Corner.{Corner}
use Rattle.tl_definitions.specs.Lattice.{steps_out, steps_in}
use Rattle.tl_definitions.specs.Region.{Region, is_corner_of, is_inner}
use Rattle.tl_lists.specs.Lists.{present}
use Rattle.tl_lists.proofs.Members.{In}
use Rattle.tl_lattice.specs.Places.{padded}
use Rattle.tl_grid.specs.Grid.{IsGrid}
use Rattle.tl_closing.proofs.Stated.{corner-within, step-ends, inner-step_out, inner-step_in, inner-of_region}
use Rattle.tl_height.specs.Standing.{AreCornersOf}
use Rattle.tl_height.proofs.PresentLemmas.{present-padded}
use Rattle.tl_definitions.specs.declared.TheConstants.{COORDINATE_LIMIT, SIDE_LIMIT}

-- an inner corner is one of the region, and so within its rows and columns
pub record IsInside (R : Region) (v : Corner) : Type 0 where
  pub of_region : is_corner_of R v ≡ true
  pub row : v.r ≤ COORDINATE_LIMIT
  pub column : v.x ≤ COORDINATE_LIMIT

pub inner-inside : (R : Region) (v : Corner) → IsGrid R → is_inner R v ≡ true → IsInside R v
inner-inside R v is_grid inner =
    let here : is_corner_of R v ≡ true = inner-of_region R v inner in
    let within : (v.r < R.rows + 1) × (v.x < R.columns + 2) = corner-within R v is_grid.placed here in
    let rows : R.rows ≤ SIDE_LIMIT = is_grid.rows_within in
    let columns : R.columns ≤ SIDE_LIMIT = is_grid.columns_within in
    record { of_region = here; row = omega (arith, within.0, rows); column = omega (arith, within.1, columns) }

-- ---- as tables

each-place : {A : Type 0} (P : A → Type 0) (xs : List (Option A)) → ((x : A) → In x (present xs) → P x) → All (λ o. IfSome o P) xs
each-place P [] f = All-nil (λ o. IfSome o P)
each-place P (None ∷ xs) f = All-cons (λ o. IfSome o P) None xs tt (each-place P xs f)
each-place P (Some x ∷ xs) f = All-cons (λ o. IfSome o P) (Some x) xs (f x (inl refl)) (each-place P xs (λ y i. f y (inr i)))

-- the places of a table that has None up to its width
table-places : (R : Region) (places steps : List (Option Corner)) → places ≡ padded 3 steps → ((w : Corner) → In w (present steps) → IsTrue (is_corner_of R w)) → AreCornersOf R places
table-places R places steps same of_region =
    each-place (λ w. IsTrue (is_corner_of R w)) places
    (λ w i. of_region w (subst (λ (ws : List Corner). In w ws) (ap (λ (os : List (Option Corner)). present os) same ∙ present-padded 3 steps) i))

pub outs-of_region : (R : Region) (v : Corner) (places : List (Option Corner)) → is_inner R v ≡ true → places ≡ padded 3 (steps_out R.kind v) → AreCornersOf R places
outs-of_region R v places inner same = table-places R places (steps_out R.kind v) same (λ w i. (step-ends R v w (inner-step_out R v w inner i)).1)

pub ins-of_region : (R : Region) (v : Corner) (places : List (Option Corner)) → is_inner R v ≡ true → places ≡ padded 3 (steps_in R.kind v) → AreCornersOf R places
ins-of_region R v places inner same = table-places R places (steps_in R.kind v) same (λ u i. (step-ends R u v (inner-step_in R v u inner i)).0)
