-- The steps from and to an inner corner, as places.
use Rattle.std.proofs.Common.{◌≡◌, ◌⊎◌, inl, inr, ℕ, zero, suc, ◌+◌, ◌-◌, ◌*◌, ◌%◌, ◌<◌, ◌≤◌, ◌^◌, Bool, true, false, List, [], ◌∷◌, map, filter, Option, Some, None, refl, sym, ◌∙◌, ap, subst, arith}
use Rattle.std.specs.Prelude.{◌==◌, nat_lt}
use Rattle.std.specs.List.{list_all}
use Rattle.std.proofs.lemmas.Bool.{and_parts, cases_Bool, eq-eqb, false≢true, ltb-false, ne_eqb}
use Rattle.std.proofs.Math.Nat.{suc-mul}
use Rattle.tl_lists.specs.Lists.{present}
use Rattle.tl_lists.proofs.Members.{In}
use Rattle.tl_definitions.specs.declared.Kind.{Kind}
use Rattle.tl_definitions.specs.declared.Kind.TheVariants.{Square, Triangle}
use Rattle.tl_definitions.specs.declared.Corner.{Corner}
use Rattle.tl_definitions.specs.Lattice.{cell_at, cell_back, corner, less, ring, steps_in, steps_out}
use Rattle.tl_definitions.specs.Region.{Region, has_at, is_edge, is_inner, is_step, steps}
use Rattle.tl_definitions.specs.Accepted.{IsPlaced}
use Rattle.tl_definitions.proofs.Darts.{less-of}
use Rattle.tl_definitions.proofs.InnerNumbers.{inner-among}
use Rattle.tl_closing.proofs.Stated.{inner-of_region, inner-step_in, inner-step_out}
use Rattle.tl_grid.specs.Grid.{IsGrid}
use Rattle.tl_grid.specs.Survey.{place_in}
use Rattle.tl_extreme.specs.CornerGraph.{place, steps_to}
use Rattle.tl_extreme.proofs.CornerPlaces.{place-small}
use Rattle.tl_extreme.proofs.StepPlaces.{edge-step}

-- ---- all steps of the table

filter-all : {A : Type 0} (p : A → Bool) (xs : List A) → ((x : A) → In x xs → p x ≡ true) → filter p xs ≡ xs
filter-all p [] f = refl
filter-all p (x ∷ xs) f = rw (f x (inl refl)) (ap (λ ys. x ∷ ys) (filter-all p xs (λ y i. f y (inr i))))

pub inner-steps : (R : Region) (v : Corner) → is_inner R v ≡ true → steps R v ≡ present (steps_out R.kind v)
inner-steps R v inner = filter-all (is_edge R v) (present (steps_out R.kind v)) (λ w i. sym (edge-step R v w i) ∙ inner-step_out R v w inner i)

pub inner-steps_to : (R : Region) (v : Corner) → is_inner R v ≡ true → steps_to R v ≡ present (steps_in R.kind v)
inner-steps_to R v inner = filter-all (λ u. is_step R u v) (present (steps_in R.kind v)) (λ u i. inner-step_in R v u inner i)

-- ---- their places

module _ (w : ℕ) where
  up : (r x : ℕ) → 1 ≤ r → (r - 1) * w + x ≡ (r * w + x) - w
  up zero x h = absurd (omega (arith, h))
  up (suc n) x h = let e : suc n - 1 ≡ n = omega arith in ap (λ k. k * w + x) e ∙ omega (arith, suc-mul n w)

  down : (r x : ℕ) → (r + 1) * w + x ≡ (r * w + x) + w
  down r x = let e : r + 1 ≡ suc r = omega arith in ap (λ k. k * w + x) e ∙ omega (arith, suc-mul r w)

  pub room : (r x : ℕ) → 1 ≤ r → w + x ≤ r * w + x
  room zero x h = absurd (omega (arith, h))
  room (suc n) x h = omega (arith, suc-mul n w)

  module _ (v : Corner) (row : 1 ≤ v.r) (column : 1 ≤ v.x) where
    abbrev p : ℕ
    p = place_in w v

    pub square-out_even : (v.r + v.x) % 2 ≡ 0 → map (place_in w) (present (steps_out Square v)) ≡ (p - w) ∷ (p + w) ∷ []
    square-out_even e =
        rw (eq-eqb ((v.r + v.x) % 2) 0 e, less-of v.r 1 (v.r - 1) (omega (arith, row)))
        (λ i. up v.r v.x row i ∷ down v.r v.x i ∷ [])

    pub square-out_odd : ((v.r + v.x) % 2 ≡ 0 → ⊥) → map (place_in w) (present (steps_out Square v)) ≡ (p - 1) ∷ (p + 1) ∷ []
    square-out_odd e =
        rw (ne_eqb ((v.r + v.x) % 2) 0 e, less-of v.x 1 (v.x - 1) (omega (arith, column)))
        (let left : v.r * w + (v.x - 1) ≡ p - 1 = omega (arith, column) in let right : v.r * w + (v.x + 1) ≡ p + 1 = omega arith in λ i. left i ∷ right i ∷ [])

    pub square-in_even : (v.r + v.x) % 2 ≡ 0 → map (place_in w) (present (steps_in Square v)) ≡ (p + 1) ∷ (p - 1) ∷ []
    square-in_even e =
        rw (eq-eqb ((v.r + v.x) % 2) 0 e, less-of v.x 1 (v.x - 1) (omega (arith, column)))
        (let left : v.r * w + (v.x - 1) ≡ p - 1 = omega (arith, column) in let right : v.r * w + (v.x + 1) ≡ p + 1 = omega arith in λ i. right i ∷ left i ∷ [])

    pub square-in_odd : ((v.r + v.x) % 2 ≡ 0 → ⊥) → map (place_in w) (present (steps_in Square v)) ≡ (p - w) ∷ (p + w) ∷ []
    square-in_odd e =
        rw (ne_eqb ((v.r + v.x) % 2) 0 e, less-of v.r 1 (v.r - 1) (omega (arith, row)))
        (λ i. up v.r v.x row i ∷ down v.r v.x i ∷ [])

    pub triangle-out : map (place_in w) (present (steps_out Triangle v)) ≡ (p + 2) ∷ ((p - w) - 1) ∷ ((p + w) - 1) ∷ []
    triangle-out =
        rw (less-of v.r 1 (v.r - 1) (omega (arith, row)), less-of v.x 1 (v.x - 1) (omega (arith, column)))
        (let on : v.r * w + (v.x + 2) ≡ p + 2 = omega arith in
        let above : (v.r - 1) * w + (v.x - 1) ≡ (p - w) - 1 = up v.r (v.x - 1) row ∙ omega (arith, column, room v.r v.x row) in
        let below : (v.r + 1) * w + (v.x - 1) ≡ (p + w) - 1 = down v.r (v.x - 1) ∙ omega (arith, column) in
        λ i. on i ∷ above i ∷ below i ∷ [])

    pub triangle-in : 2 ≤ v.x → map (place_in w) (present (steps_in Triangle v)) ≡ ((p - w) + 1) ∷ ((p + w) + 1) ∷ (p - 2) ∷ []
    triangle-in wide =
        rw (less-of v.r 1 (v.r - 1) (omega (arith, row)), less-of v.x 2 (v.x - 2) (omega (arith, wide)))
        (let above : (v.r - 1) * w + (v.x + 1) ≡ (p - w) + 1 = up v.r (v.x + 1) row ∙ omega (arith, room v.r v.x row) in
        let below : (v.r + 1) * w + (v.x + 1) ≡ (p + w) + 1 = down v.r (v.x + 1) ∙ omega arith in
        let back : v.r * w + (v.x - 2) ≡ p - 2 = omega (arith, wide) in
        λ i. above i ∷ below i ∷ back i ∷ [])

none-back : (o : Option ℕ) → cell_at o None ≡ None
none-back None = refl
none-back (Some r) = refl

-- an inner corner of triangles isn't in the first two columns
pub triangle-wide : (R : Region) (v : Corner) → R.kind ≡ Triangle → is_inner R v ≡ true → 2 ≤ v.x
triangle-wide R v kind inner = go (cases_Bool (nat_lt v.x 2)) (and_parts _ _ (subst (λ (k : Kind). list_all (has_at R) (ring k v) ≡ true) kind (and_parts _ _ inner).1)).0
  where
    go : (nat_lt v.x 2 ≡ true) ⊎ (nat_lt v.x 2 ≡ false) → has_at R (cell_back v 1 2) ≡ true → 2 ≤ v.x
    go (inr e) h = ltb-false v.x 2 e
    go (inl e) h =
        let before : less v.x 2 ≡ None = rw e refl in
        let outside : cell_back v 1 2 ≡ None = ap (cell_at (less v.r 1)) before ∙ none-back (less v.r 1) in
        absurd (false≢true (sym (ap (has_at R) outside) ∙ h))

-- ---- as they are computed

-- what bounds the arithmetic with the place of an inner corner
pub record HasRoom (p width : ℕ) : Type 0 where
  pub below : (p + width) + 2 < 2 ^ 32
  pub above : width + 1 ≤ p

module _ (R : Region) (is_grid : IsGrid R) (v : Corner) (inner : is_inner R v ≡ true) (width p : ℕ) (wide : width ≡ R.columns + 2) (place_is : p ≡ place R v) where
  pub has-room : HasRoom p width
  has-room =
      let a = inner-among R v is_grid.placed inner in
      let small = place-small R is_grid v (inner-of_region R v inner) in
      let least = room (R.columns + 2) v.r v.x a.below_first_row in
      record {
        below = omega (arith, wide, place_is, small, is_grid.columns_within);
        above = omega (arith, wide, place_is, least, a.right_of_first_column);
      }

  row : 1 ≤ v.r
  row = (inner-among R v is_grid.placed inner).below_first_row

  column : 1 ≤ v.x
  column = (inner-among R v is_grid.placed inner).right_of_first_column

  abbrev w : ℕ
  w = R.columns + 2

  finish-out : (k : Kind) → R.kind ≡ k → (xs : List ℕ) → map (place R) (present (steps_out k v)) ≡ xs → xs ≡ map (place R) (steps R v)
  finish-out k kind xs e = sym e ∙ ap (λ (q : Kind). map (place R) (present (steps_out q v))) (sym kind) ∙ ap (map (place R)) (sym (inner-steps R v inner))

  finish-in : (k : Kind) → R.kind ≡ k → (xs : List ℕ) → map (place R) (present (steps_in k v)) ≡ xs → xs ≡ map (place R) (steps_to R v)
  finish-in k kind xs e = sym e ∙ ap (λ (q : Kind). map (place R) (present (steps_in q v))) (sym kind) ∙ ap (map (place R)) (sym (inner-steps_to R v inner))

  pub out-even : R.kind ≡ Square → (v.r + v.x) % 2 ≡ 0 → (p - width) ∷ (p + width) ∷ [] ≡ map (place R) (steps R v)
  out-even kind even = (λ i. (place_is i - wide i) ∷ (place_is i + wide i) ∷ []) ∙ finish-out Square kind _ (square-out_even w v row column even)

  pub out-odd : R.kind ≡ Square → ((v.r + v.x) % 2 ≡ 0 → ⊥) → (p - 1) ∷ (p + 1) ∷ [] ≡ map (place R) (steps R v)
  out-odd kind odd = (λ i. (place_is i - 1) ∷ (place_is i + 1) ∷ []) ∙ finish-out Square kind _ (square-out_odd w v row column odd)

  pub out-triangle : R.kind ≡ Triangle → (p + 2) ∷ ((p - width) - 1) ∷ ((p + width) - 1) ∷ [] ≡ map (place R) (steps R v)
  out-triangle kind =
      (λ i. (place_is i + 2) ∷ ((place_is i - wide i) - 1) ∷ ((place_is i + wide i) - 1) ∷ [])
      ∙ finish-out Triangle kind _ (triangle-out w v row column)

  pub in-even : R.kind ≡ Square → (v.r + v.x) % 2 ≡ 0 → (p + 1) ∷ (p - 1) ∷ [] ≡ map (place R) (steps_to R v)
  in-even kind even = (λ i. (place_is i + 1) ∷ (place_is i - 1) ∷ []) ∙ finish-in Square kind _ (square-in_even w v row column even)

  pub in-odd : R.kind ≡ Square → ((v.r + v.x) % 2 ≡ 0 → ⊥) → (p - width) ∷ (p + width) ∷ [] ≡ map (place R) (steps_to R v)
  in-odd kind odd = (λ i. (place_is i - wide i) ∷ (place_is i + wide i) ∷ []) ∙ finish-in Square kind _ (square-in_odd w v row column odd)

  pub in-triangle : R.kind ≡ Triangle → ((p - width) + 1) ∷ ((p + width) + 1) ∷ (p - 2) ∷ [] ≡ map (place R) (steps_to R v)
  in-triangle kind =
      (λ i. ((place_is i - wide i) + 1) ∷ ((place_is i + wide i) + 1) ∷ (place_is i - 2) ∷ [])
      ∙ finish-in Triangle kind _ (triangle-in w v row column (triangle-wide R v kind inner))
