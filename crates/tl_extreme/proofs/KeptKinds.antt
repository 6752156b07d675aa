-- What is kept of each corner: parities by rows, and then the corners of the circuit.
use Rattle.std.proofs.Common.{◌≡◌, ◌⊎◌, inl, inr, ℕ, zero, suc, ◌+◌, ◌*◌, ◌%◌, ◌<◌, ◌≤◌, Bool, true, false, not, List, [], ◌∷◌, ◌++◌, map, length, get_or, take, drop, Some, refl, sym, ◌∙◌, ap, arith, add-one}
use Rattle.std.specs.Prelude.{slice_get, slice_set, ◌||◌, ◌==◌, if◌then◌else◌, nat_lt}
use Rattle.std.specs.List.{list_any, range_with_len}
use Rattle.std.proofs.lemmas.Bool.{cases_Bool, eq-eqb, eqb-true, false≢true, ltb-false, ltb-true, or_right}
use Rattle.std.proofs.lemmas.List.{get_or-drop, get_or-take, length-append, length-drop, length-map, length-set, length-take-le, take_all}
use Rattle.std.proofs.lemmas.List.Folds.{list_any_more}
use Rattle.std.proofs.lemmas.List.FromFn.{length-map-range_with_len, get_or-map-range_with_len}
use Rattle.std.proofs.lemmas.Option.{get_or_from_slice_get, slice_get_within, slice_get-get_or}
use Rattle.std.proofs.Math.Bool.{or-false}
use Rattle.std.proofs.Math.Nat.{suc-mul}
use Rattle.tl_definitions.specs.declared.Corner.{Corner}
use Rattle.tl_definitions.specs.Lattice.{corner, corner_eq, Side}
use Rattle.tl_definitions.specs.Accepted.{IsCircuit, circuit_corners}
use Rattle.tl_definitions.specs.Region.{Region, is_corner_of, is_inner}
use Rattle.tl_definitions.proofs.Corners.{corner_eq-refl, corner_eq-same, same_place}
use Rattle.tl_closing.proofs.Stated.{circuit-corner, corner-within, on_circuit-inner}
use Rattle.tl_grid.specs.Grid.{IsGrid}
use Rattle.tl_grid.specs.Survey.{place_in}
use Rattle.tl_extreme.specs.declared.corner_graph.PlaceKind.{PlaceKind}
use Rattle.tl_extreme.specs.declared.corner_graph.PlaceKind.TheVariants.{Edge, Even, Odd}
use Rattle.tl_extreme.specs.CornerGraph.{corner_of}
use Rattle.tl_extreme.specs.PlaceKinds.{AreKinds, AreKindsOf, by_parity, corner_parity, place_kind}
use Rattle.tl_extreme.proofs.CornerPlaces.{place-corner_of}

-- ---- lists

get-left : {A : Type 0} (xs ys : List A) (i : ℕ) (x : A) → slice_get xs i ≡ Some x → slice_get (xs ++ ys) i ≡ Some x
get-left [] ys i x e = cc e
get-left (z ∷ xs) ys zero x e = e
get-left (z ∷ xs) ys (suc i) x e = get-left xs ys i x e

get-right : {A : Type 0} (xs ys : List A) (n i : ℕ) → n ≡ length xs + i → slice_get (xs ++ ys) n ≡ slice_get ys i
get-right [] ys n i e = ap (slice_get ys) (omega (arith, e))
get-right (z ∷ xs) ys zero i e = absurd (omega (arith, e))
get-right (z ∷ xs) ys (suc n) i e = get-right xs ys n i (omega (arith, e))

get-set_same : {A : Type 0} (xs : List A) (i : ℕ) (x y : A) → slice_get xs i ≡ Some x → slice_get (slice_set xs i y) i ≡ Some y
get-set_same [] i x y e = cc e
get-set_same (z ∷ xs) zero x y e = refl
get-set_same (z ∷ xs) (suc i) x y e = get-set_same xs i x y e

get-set_other : {A : Type 0} (xs : List A) (i j : ℕ) (y : A) → (j ≡ i → ⊥) → slice_get (slice_set xs i y) j ≡ slice_get xs j
get-set_other [] i j y differ = refl
get-set_other (z ∷ xs) zero zero y differ = absurd (differ refl)
get-set_other (z ∷ xs) zero (suc j) y differ = refl
get-set_other (z ∷ xs) (suc i) zero y differ = refl
get-set_other (z ∷ xs) (suc i) (suc j) y differ = get-set_other xs i j y (λ e. differ (ap suc e))

-- ---- rows of parities

kinds-row : (rows width : ℕ) (kind_of : Corner → PlaceKind) (kinds row : List PlaceKind) → AreKinds rows width kind_of kinds → length row ≡ width
    → ((x : ℕ) → x < width → slice_get row x ≡ Some (kind_of (corner rows x))) → AreKinds (rows + 1) width kind_of (kinds ++ row)
kinds-row rows width kind_of kinds row are long is =
    record {
      size = omega (arith, length-append kinds row, are.size, long, more);
      at = λ v h k. at v k (le_cases h);
    }
  where
    more : (rows + 1) * width ≡ rows * width + width
    more = ap (λ (n : ℕ). n * width) (add-one rows) ∙ omega (arith, suc-mul rows width)

    le_cases : {r : ℕ} → r < rows + 1 → (r < rows) ⊎ (r ≡ rows)
    le_cases {r} h = go (cases_Bool (nat_lt r rows))
      where
        go : (nat_lt r rows ≡ true) ⊎ (nat_lt r rows ≡ false) → (r < rows) ⊎ (r ≡ rows)
        go (inl e) = inl (ltb-true r rows e)
        go (inr e) = inr (omega (arith, h, ltb-false r rows e))

    at : (v : Corner) → v.x < width → (v.r < rows) ⊎ (v.r ≡ rows) → slice_get (kinds ++ row) (place_in width v) ≡ Some (kind_of v)
    at v k (inl before) = get-left kinds row (place_in width v) (kind_of v) (are.at v before k)
    at v k (inr here) =
        get-right kinds row (place_in width v) v.x (ap (λ (r : ℕ). r * width + v.x) here ∙ omega (arith, are.size))
        ∙ is v.x k ∙ ap (λ (r : ℕ). Some (kind_of (corner r v.x))) (sym here)

-- the parities by turns, from the first or from the second
pub kinds-turns : (rows width : ℕ) (kinds turns : List PlaceKind) → AreKinds rows width corner_parity kinds → turns ≡ map by_parity (range_with_len 0 (width + 1))
    → AreKinds (rows + 1) width corner_parity (kinds ++ take width (drop (rows % 2) turns))
kinds-turns rows width kinds turns are is = kinds-row rows width corner_parity kinds row are long at
  where
    row : List PlaceKind
    row = take width (drop (rows % 2) turns)

    all : length turns ≡ width + 1
    all = ap length is ∙ length-map-range_with_len by_parity 0 (width + 1)

    enough : width ≤ length (drop (rows % 2) turns)
    enough = omega (arith, length-drop (rows % 2) turns, all)

    long : length row ≡ width
    long = length-take-le width (drop (rows % 2) turns) enough

    parity : (x : ℕ) → by_parity (rows % 2 + x) ≡ by_parity (rows + x)
    parity x = let e : (rows % 2 + x) % 2 ≡ (rows + x) % 2 = omega arith in ap (λ (n : ℕ). if n == 0 then Even else Odd) e

    at : (x : ℕ) → x < width → slice_get row x ≡ Some (by_parity (rows + x))
    at x h =
        slice_get-get_or row x Edge (omega (arith, h, long))
        ∙ ap (λ (k : PlaceKind). Some k)
        (get_or-take width (drop (rows % 2) turns) x Edge h ∙ get_or-drop (rows % 2) turns x Edge
        ∙ ap (λ (l : List PlaceKind). get_or l (rows % 2 + x) Edge) is
        ∙ get_or-map-range_with_len by_parity 0 (width + 1) (rows % 2 + x) (rows % 2 + x) Edge (omega (arith, h)) (omega arith)
        ∙ parity x)

-- ---- the corners of the circuit

abbrev pub marked : List Corner → Corner → PlaceKind
marked corners v = if list_any (corner_eq v) corners then Edge else corner_parity v

kinds-set : (rows width : ℕ) (f g : Corner → PlaceKind) (kinds : List PlaceKind) (u : Corner) → AreKinds rows width f kinds → u.r < rows → u.x < width
    → g u ≡ Edge → ((v : Corner) → corner_eq v u ≡ false → g v ≡ f v) → AreKinds rows width g (slice_set kinds (place_in width u) Edge)
kinds-set rows width f g kinds u are row column here other =
    record {
      size = length-set kinds (place_in width u) Edge ∙ are.size;
      at = λ v h k. at v h k (cases_Bool (corner_eq v u));
    }
  where
    at : (v : Corner) → v.r < rows → v.x < width → (corner_eq v u ≡ true) ⊎ (corner_eq v u ≡ false)
        → slice_get (slice_set kinds (place_in width u) Edge) (place_in width v) ≡ Some (g v)
    at v h k (inl e) =
        let same : v ≡ u = corner_eq-same v u e in
        ap (λ (w : Corner). slice_get (slice_set kinds (place_in width u) Edge) (place_in width w)) same
        ∙ get-set_same kinds (place_in width u) (f u) Edge (are.at u row column)
        ∙ ap (λ (c : PlaceKind). Some c) (sym (ap g same ∙ here))
    at v h k (inr e) =
        get-set_other kinds (place_in width u) (place_in width v) Edge
        (λ same. false≢true (sym e ∙ ap (λ (w : Corner). corner_eq v w) (sym (same_place v u width k column same)) ∙ corner_eq-refl v))
        ∙ are.at v h k ∙ ap (λ (c : PlaceKind). Some c) (sym (other v e))

module _ (R : Region) (is_grid : IsGrid R) (walk : List Side) (circuit : IsCircuit R walk) where
  abbrev AreMarked : ℕ → List PlaceKind → Type 0
  AreMarked k = AreKinds (R.rows + 1) (R.columns + 2) (marked (take k (circuit_corners walk)))

  pub marked-more : (k : ℕ) (u : Corner) (kinds : List PlaceKind) → slice_get (circuit_corners walk) k ≡ Some u
      → AreMarked k kinds → AreMarked (k + 1) (slice_set kinds (place_in (R.columns + 2) u) Edge)
  marked-more k u kinds e are =
      let p = corner-within R u is_grid.placed (circuit-corner R walk k u is_grid.placed circuit e) in
      kinds-set (R.rows + 1) (R.columns + 2) (marked (take k (circuit_corners walk))) (marked (take (k + 1) (circuit_corners walk))) kinds u are p.0 p.1 here other
    where
      more : (v : Corner) → list_any (corner_eq v) (take (k + 1) (circuit_corners walk)) ≡ (list_any (corner_eq v) (take k (circuit_corners walk)) || corner_eq v u)
      more v =
          list_any_more (corner_eq v) (circuit_corners walk) k u (slice_get_within (circuit_corners walk) k u e)
          ∙ ap (λ (w : Corner). list_any (corner_eq v) (take k (circuit_corners walk)) || corner_eq v w) (get_or_from_slice_get (circuit_corners walk) k u u e)

      here : marked (take (k + 1) (circuit_corners walk)) u ≡ Edge
      here =
          ap (λ (b : Bool). if b then Edge else corner_parity u)
          (more u ∙ or_right (list_any (corner_eq u) (take k (circuit_corners walk))) (corner_eq u u) (corner_eq-refl u))

      other : (v : Corner) → corner_eq v u ≡ false → marked (take (k + 1) (circuit_corners walk)) v ≡ marked (take k (circuit_corners walk)) v
      other v differ =
          ap (λ (b : Bool). if b then Edge else corner_parity v)
          (more v ∙ ap (λ (b : Bool). list_any (corner_eq v) (take k (circuit_corners walk)) || b) differ
          ∙ or-false (list_any (corner_eq v) (take k (circuit_corners walk))))

  -- a corner that isn't on the circuit is an inner one
  pub marked-all : (k : ℕ) (kinds : List PlaceKind) → k ≡ length walk → AreMarked k kinds → AreKindsOf R kinds
  marked-all k kinds whole are v e =
      let p = corner-within R v is_grid.placed e in
      are.at v p.0 p.1
      ∙ ap (λ (c : PlaceKind). Some c)
      (ap (λ (vs : List Corner). marked vs v) (take_all k (circuit_corners walk) (omega (arith, whole, length-map walk (λ (s : Side). s.from))))
      ∙ ap (λ (b : Bool). if b then Edge else corner_parity v) (on_circuit-inner R is_grid.placed walk circuit v e) ∙ turn (is_inner R v))
    where
      turn : (b : Bool) → (if not b then Edge else corner_parity v) ≡ (if b then corner_parity v else Edge)
      turn true = refl
      turn false = refl

-- ---- what a kind tells

pub kind-inner : (R : Region) (v : Corner) → (place_kind R v ≡ Edge → ⊥) → is_inner R v ≡ true
kind-inner R v inner = go (cases_Bool (is_inner R v))
  where
    go : (is_inner R v ≡ true) ⊎ (is_inner R v ≡ false) → is_inner R v ≡ true
    go (inl e) = e
    go (inr e) = absurd (inner (ap (λ (b : Bool). if b then corner_parity v else Edge) e))

parity_is : (n : ℕ) (b : Bool) → (n % 2 == 0) ≡ b → by_parity n ≡ (if b then Even else Odd)
parity_is n b e = ap (λ (t : Bool). if t then Even else Odd) e

module _ (R : Region) (v : Corner) where
  parity-kind : is_inner R v ≡ true → place_kind R v ≡ corner_parity v
  parity-kind inner = ap (λ (b : Bool). if b then corner_parity v else Edge) inner

  pub kind-even : place_kind R v ≡ Even → (is_inner R v ≡ true) × ((v.r + v.x) % 2 ≡ 0)
  kind-even e =
      let inner = kind-inner R v (λ edge. absurd (cc (edge, e))) in
      (inner, go (parity-kind inner) (cases_Bool ((v.r + v.x) % 2 == 0)))
    where
      go : place_kind R v ≡ corner_parity v → (((v.r + v.x) % 2 == 0) ≡ true) ⊎ (((v.r + v.x) % 2 == 0) ≡ false) → (v.r + v.x) % 2 ≡ 0
      go parity (inl even) = eqb-true ((v.r + v.x) % 2) 0 even
      go parity (inr odd) = let is = parity_is (v.r + v.x) false odd in absurd (cc (e, parity, is))

  pub kind-odd : place_kind R v ≡ Odd → (is_inner R v ≡ true) × ((v.r + v.x) % 2 ≡ 0 → ⊥)
  kind-odd e =
      let inner = kind-inner R v (λ edge. absurd (cc (edge, e))) in
      (inner, λ even. go (parity-kind inner) (eq-eqb ((v.r + v.x) % 2) 0 even))
    where
      go : place_kind R v ≡ corner_parity v → ((v.r + v.x) % 2 == 0) ≡ true → ⊥
      go parity even = let is = parity_is (v.r + v.x) true even in absurd (cc (e, parity, is))

-- ---- read at a place

module _ (R : Region) (kinds : List PlaceKind) (are : AreKindsOf R kinds) (p : ℕ) (on : is_corner_of R (corner_of R p) ≡ true) where
  kept : slice_get kinds p ≡ Some (place_kind R (corner_of R p))
  kept = ap (slice_get kinds) (sym (place-corner_of R p)) ∙ are (corner_of R p) on

  pub kept-within : p < length kinds
  kept-within = slice_get_within kinds p (place_kind R (corner_of R p)) kept

  pub kept-kind : (kind : PlaceKind) → kind ≡ get_or kinds p kind → place_kind R (corner_of R p) ≡ kind
  kept-kind kind e = sym (e ∙ get_or_from_slice_get kinds p (place_kind R (corner_of R p)) kind kept)
