-- A step at all slots of a class, for the marks of one end of a pair: of bits, and of strings of words.
use Rattle.std.proofs.Common.{◌≡◌, ℕ, ◌+◌, ◌-◌, ◌%◌, ◌<◌, ◌≤◌, ◌⊎◌, inl, inr, Bool, true, false, eqb, List, sym, ◌∙◌, ap, subst, arith, Some, ℤ}
use Rattle.std.specs.Prelude.{slice_get}
use Rattle.std.specs.List.{position_or_len}
use Rattle.std.proofs.lemmas.Bool.{and_left, and_right, cases_Bool, eqb-false, eqb-true}
use Rattle.tl_definitions.specs.declared.Kind.{Kind}
use Rattle.tl_definitions.specs.declared.Kind.TheVariants.{Square, Triangle}
use Rattle.tl_definitions.specs.declared.Corner.{Corner}
use Rattle.tl_definitions.specs.Lattice.{class_of, corner_eq}
use Rattle.tl_definitions.specs.Region.{Region, inner_corners, is_corner_of, is_inner}
use Rattle.tl_definitions.specs.Accepted.{Accepted}
use Rattle.tl_definitions.specs.Heights.{AreLawful}
use Rattle.tl_definitions.proofs.Corners.{corner_eq-same}
use Rattle.tl_definitions.proofs.InnerNumbers.{any-inner_corners, inner-at}
use Rattle.tl_lists.proofs.Positions.{position-at}
use Rattle.tl_closing.proofs.Stated.{inner-of_region}
use Rattle.tl_steps.specs.Stepping.{AreSwept, is_of_class}
use Rattle.tl_marks.specs.Marks.{mark, stepped_mark}
use Rattle.tl_marks.proofs.Stated.{mark-same, mark-stepped}
use Rattle.tl_strings.specs.Strings.{column, row_of, slot_of, string_bit}
use Rattle.tl_strings.specs.Steps.{coin_bit, square_bit, triangle_bit}
use Rattle.tl_packing.specs.Packing.{AreFreeSlots, AreLowSlots, AreSameBitsBut, AreSameBut, AreSteppedSquareBits, AreSteppedSquares, AreSteppedTriangleBits, AreSteppedTriangles, HasCoinBits, HasCoins, HoldsBits, HoldsMarks, IsFrame, StandsAt}
use Rattle.tl_packing.proofs.Places.{IsWithin, inner-within, slot-not_first, square-beside, triangle-beside}
use Rattle.tl_packing.proofs.Bits.{square-stepped, triangle-stepped}
use Rattle.tl_packing.proofs.Bounds.{square_bits-bound, triangle_bits-bound}
use Rattle.tl_packing.proofs.Slots.{inner-coin, inner-free, outer-free, row-within}

-- an inner corner has a number
pub numbered : (R : Region) (v : Corner) → Accepted R → is_inner R v ≡ true → (i : ℕ) × (slice_get (inner_corners R) i ≡ Some v)
numbered R v accepted inner =
    let (u, e, same) = position-at (corner_eq v) (inner_corners R) (any-inner_corners R v accepted.placed ∙ inner) in
    (position_or_len (corner_eq v) (inner_corners R), e ∙ ap (λ (w : Corner). Some w) (sym (corner_eq-same v u same)))

module _ (R : Region) (height first k shift : ℕ) (accepted : Accepted R) (frame : IsFrame R height first) (numbers others : List ℤ) (bits : ℕ → Bool)
    (lawful : AreLawful R numbers) (swept : AreSwept R numbers others bits (is_of_class R k)) (old new : ℕ → ℕ → ℕ → Bool) (same : AreSameBitsBut k old new)
    (holds : HoldsBits R first numbers old shift) where
  abbrev slot : Corner → ℕ
  slot v = slot_of R.kind first v + shift

  -- the bit of a corner beside another
  read : (class row place class' place' : ℕ) (u : Corner) → StandsAt R first class row place u → class' ≡ class → place' ≡ place + shift
      → old class' row place' ≡ mark R numbers u
  read class row place class' place' u at of there =
      (λ i. old ((of ∙ sym at.of_class) i) (sym at.row_is i) ((there ∙ (λ j. sym at.slot_is j + shift)) i))
      ∙ holds u at.of_region at.not_before at.reached

  -- What the new string of the class has to be: at inner corners it has the mark that the step puts, and at others its old bit.
  abbrev IsPut : Type 0
  IsPut = (i : ℕ) (v : Corner) → slice_get (inner_corners R) i ≡ Some v → is_of_class R k v ≡ true
      → new k (row_of v) (slot v) ≡ stepped_mark R.kind (mark R numbers) v (bits i)

  abbrev IsLeft : Type 0
  IsLeft = (v : Corner) → is_corner_of R v ≡ true → first ≤ column R.kind v + 1 → is_of_class R k v ≡ true → is_inner R v ≡ false
      → new k (row_of v) (slot v) ≡ old k (row_of v) (slot v)

  all-held : IsPut → IsLeft → HoldsBits R first others new shift
  all-held put left v of_region near reached = go (cases_Bool (is_of_class R k v)) (cases_Bool (is_inner R v))
    where
      go : (is_of_class R k v ≡ true) ⊎ (is_of_class R k v ≡ false) → (is_inner R v ≡ true) ⊎ (is_inner R v ≡ false)
          → new (class_of R.kind v) (row_of v) (slot v) ≡ mark R others v
      go (inl of_class) (inl inner) =
          let (i, at) = numbered R v accepted inner in
          ap (λ (class : ℕ). new class (row_of v) (slot v)) (eqb-true _ _ of_class)
          ∙ (put i v at of_class ∙ sym (mark-stepped R numbers others lawful v inner (bits i) (swept.stepped i v at of_class)))
      go (inl of_class) (inr outer) =
          ap (λ (class : ℕ). new class (row_of v) (slot v)) (eqb-true _ _ of_class)
          ∙ (left v of_region near of_class outer
          ∙ (ap (λ (class : ℕ). old class (row_of v) (slot v)) (sym (eqb-true _ _ of_class))
          ∙ (holds v of_region near reached ∙ sym (mark-same R numbers others v (swept.kept v of_region (and_left _ _ outer))))))
      go (inr other) any =
          same (class_of R.kind v) (row_of v) (slot v) (eqb-false _ _ other)
          ∙ (holds v of_region near reached ∙ sym (mark-same R numbers others v (swept.kept v of_region (and_right _ _ other))))

  module _ (coin : ℕ → ℕ → Bool) (has : HasCoinBits R first k bits coin) (lows free : List ℕ) (low : AreLowSlots R height first k lows) (are_free : AreFreeSlots height lows free) (l : shift ≤ 1) where
    within-height : (v : Corner) → is_corner_of R v ≡ true → row_of v < height
    within-height v of_region = row-within R height first k accepted frame lows low v of_region

    -- the old bit of an inner corner, its coin, and that its slot is free
    abbrev Own : ℕ → Corner → Type 0
    Own i v = (old k (row_of v) (slot v) ≡ mark R numbers v) × (coin (row_of v) (slot v) ≡ bits i) × (string_bit height free (row_of v) (slot v) ≡ true)

    own : (i : ℕ) (v : Corner) → slice_get (inner_corners R) i ≡ Some v → is_of_class R k v ≡ true → Own i v
    own i v at of_class =
        let inner = inner-at R v i at in
        let behind = frame.columns v inner in (
          ap (λ (n : ℕ). old n (row_of v) (slot v)) (sym (eqb-true _ _ of_class)) ∙ holds v (inner-of_region R v inner) (omega (arith, behind)) (v, inner, omega arith),
          has i shift v at of_class l,
          inner-free R height first k accepted frame lows low free are_free v shift inner of_class l,
        )

    bound : (v : Corner) → is_corner_of R v ≡ true → first ≤ column R.kind v + 1 → is_of_class R k v ≡ true → is_inner R v ≡ false
        → string_bit height free (row_of v) (slot v) ≡ false
    bound v of_region near of_class outer = outer-free R height first k accepted frame lows low free are_free v shift of_region of_class near outer l

    pub square_bits-held : R.kind ≡ Square → AreSteppedSquareBits 1 height (eqb k 1) (old ((k + 1) % 2)) coin (string_bit height free) (old k) (new k) → HoldsBits R first others new shift
    square_bits-held e are = all-held put left
      where
        put : IsPut
        put i v at of_class =
            let inner = inner-at R v i at in
            let beside = square-beside R height first frame v inner e in
            let within : (1 ≤ v.r) × (1 ≤ v.x) = subst (λ (j : Kind). IsWithin j v) e (inner-within R v inner) in
            let behind = slot-not_first R height first frame v inner in
            let class : k ≡ class_of Square v = sym (eqb-true _ _ of_class) ∙ ap (λ (j : Kind). class_of j v) e in
            let place : slot_of R.kind first v ≡ slot_of Square first v = ap (λ (j : Kind). slot_of j first v) e in
            let other : (k + 1) % 2 ≡ (class_of Square v + 1) % 2 = ap (λ (n : ℕ). (n + 1) % 2) class in
            let m = mark R numbers in
            let (here, coin, is_free) = own i v at of_class in
            let west = read _ _ _ ((k + 1) % 2) (slot v - 1) _ beside.west other (omega (arith, place, behind)) in
            let east = read _ _ _ ((k + 1) % 2) (slot v + 1) _ beside.east other (omega (arith, place)) in
            let north = read _ _ _ ((k + 1) % 2) (slot v) _ beside.north other (omega (arith, place)) in
            let south = read _ _ _ ((k + 1) % 2) (slot v) _ beside.south other (omega (arith, place)) in
            are.stepped (row_of v) (slot v) (omega arith) (within-height v (inner-of_region R v inner)) (omega (arith, behind))
            ∙ ((λ j. square_bit (eqb (class j) 1) (here j) (west j) (east j) (north j) (south j) (coin j) (is_free j))
            ∙ (sym (square-stepped m v (bits i) within.0 within.1) ∙ ap (λ (j : Kind). stepped_mark j m v (bits i)) (sym e)))

        left : IsLeft
        left v of_region near of_class outer =
            square_bits-bound 1 height (eqb k 1) (old ((k + 1) % 2)) coin (string_bit height free) (old k) (new k) are (row_of v) (slot v) (omega arith)
            (within-height v of_region) (bound v of_region near of_class outer)

    pub triangle_bits-held : R.kind ≡ Triangle → AreSteppedTriangleBits 1 height k (old ((k + 1) % 3)) (old ((k + 2) % 3)) coin (string_bit height free) (old k) (new k)
        → HoldsBits R first others new shift
    triangle_bits-held e are = all-held put left
      where
        put : IsPut
        put i v at of_class =
            let inner = inner-at R v i at in
            let beside = triangle-beside R height first frame v inner e in
            let within : (1 ≤ v.r) × (2 ≤ v.x) = subst (λ (j : Kind). IsWithin j v) e (inner-within R v inner) in
            let behind = slot-not_first R height first frame v inner in
            let class : k ≡ class_of Triangle v = sym (eqb-true _ _ of_class) ∙ ap (λ (j : Kind). class_of j v) e in
            let place : slot_of R.kind first v ≡ slot_of Triangle first v = ap (λ (j : Kind). slot_of j first v) e in
            let from : (k + 1) % 3 ≡ (class_of Triangle v + 1) % 3 = ap (λ (n : ℕ). (n + 1) % 3) class in
            let to : (k + 2) % 3 ≡ (class_of Triangle v + 2) % 3 = ap (λ (n : ℕ). (n + 2) % 3) class in
            let m = mark R numbers in
            let (here, coin, is_free) = own i v at of_class in
            let west = read _ _ _ ((k + 1) % 3) (slot v - 1) _ beside.west from (omega (arith, place, behind)) in
            let north_east = read _ _ _ ((k + 1) % 3) (slot v) _ beside.north_east from (omega (arith, place)) in
            let south_east = read _ _ _ ((k + 1) % 3) (slot v + 1) _ beside.south_east from (omega (arith, place)) in
            let east = read _ _ _ ((k + 2) % 3) (slot v + 1) _ beside.east to (omega (arith, place)) in
            let north_west = read _ _ _ ((k + 2) % 3) (slot v - 1) _ beside.north_west to (omega (arith, place, behind)) in
            let south_west = read _ _ _ ((k + 2) % 3) (slot v) _ beside.south_west to (omega (arith, place)) in
            are.stepped (row_of v) (slot v) (omega arith) (within-height v (inner-of_region R v inner)) (omega (arith, behind))
            ∙ ((λ j. triangle_bit (class j) (here j) (west j) (north_east j) (south_east j) (east j) (north_west j) (south_west j) (coin j) (is_free j))
            ∙ (sym (triangle-stepped m v (bits i) within.0 within.1) ∙ ap (λ (j : Kind). stepped_mark j m v (bits i)) (sym e)))

        left : IsLeft
        left v of_region near of_class outer =
            triangle_bits-bound 1 height k (old ((k + 1) % 3)) (old ((k + 2) % 3)) coin (string_bit height free) (old k) (new k) are (row_of v) (slot v) (omega arith)
            (within-height v of_region) (bound v of_region near of_class outer)

-- ---- strings of words

module _ (R : Region) (height first k shift : ℕ) (accepted : Accepted R) (frame : IsFrame R height first) (numbers others : List ℤ) (bits : ℕ → Bool)
    (lawful : AreLawful R numbers) (swept : AreSwept R numbers others bits (is_of_class R k)) (strings new : ℕ → List ℕ) (same : AreSameBut k strings new)
    (holds : HoldsMarks R height first numbers strings shift)
    (coins lows free : List ℕ) (has : HasCoins R height first bits coins) (low : AreLowSlots R height first k lows) (are_free : AreFreeSlots height lows free) (l : shift ≤ 1) where
  abbrev of_strings : (ℕ → List ℕ) → ℕ → ℕ → ℕ → Bool
  of_strings words class = string_bit height (words class)

  same-bits : AreSameBitsBut k (of_strings strings) (of_strings new)
  same-bits class row slot other = ap (λ (words : List ℕ). string_bit height words row slot) (same class other)

  coin-bits : HasCoinBits R first k bits (coin_bit height coins lows)
  coin-bits i shift' v at of_class below = inner-coin R height first k accepted frame lows low coins (bits i) v shift' (inner-at R v i at) of_class (has i v at) below

  pub squares-held : R.kind ≡ Square → AreSteppedSquares height (strings ((k + 1) % 2)) coins lows free (eqb k 1) (strings k) (new k) → HoldsMarks R height first others new shift
  squares-held =
      square_bits-held R height first k shift accepted frame numbers others bits lawful swept (of_strings strings) (of_strings new) same-bits holds
      (coin_bit height coins lows) coin-bits lows free low are_free l

  pub triangles-held : R.kind ≡ Triangle → AreSteppedTriangles height k (strings ((k + 1) % 3)) (strings ((k + 2) % 3)) coins lows free (strings k) (new k)
      → HoldsMarks R height first others new shift
  triangles-held =
      triangle_bits-held R height first k shift accepted frame numbers others bits lawful swept (of_strings strings) (of_strings new) same-bits holds
      (coin_bit height coins lows) coin-bits lows free low are_free l
