-- The slots of a class: which are free, and the coin of each.
use Rattle.std.proofs.Common.{◌≡◌, ℕ, ◌+◌, ◌-◌, ◌<◌, ◌≤◌, ◌⊎◌, inl, inr, Bool, true, false, ◌&&◌, ◌||◌, List, refl, sym, ◌∙◌, ap, subst, arith}
use Rattle.std.proofs.lemmas.Bool.{cases_eq, or_from, or_left, or_right, eqb-true, false_from_ne_true}
use Rattle.tl_definitions.specs.declared.Corner.{Corner}
use Rattle.tl_definitions.specs.Region.{Region, is_corner_of, is_inner}
use Rattle.tl_definitions.specs.Accepted.{Accepted}
use Rattle.tl_closing.proofs.Stated.{corner-within, inner-of_region}
use Rattle.tl_steps.specs.Stepping.{is_of_class}
use Rattle.tl_strings.specs.Strings.{column, row_of, slot_of, string_bit}
use Rattle.tl_strings.specs.Steps.{coin_bit}
use Rattle.tl_packing.specs.Packing.{AreFreeSlots, AreLowSlots, IsFrame}
use Rattle.tl_packing.proofs.Places.{inner-corner, one-corner, region-corner, slot-not_first}

-- what holds at a slot and at the one after it holds at either end
pub at-end : (P : ℕ → Type 0) (slot shift : ℕ) → shift ≤ 1 → P slot → P (slot + 1) → P (slot + shift)
at-end P slot shift l p q = go (cases_eq shift 0)
  where
    go : (shift ≡ 0) ⊎ ((shift ≡ 0) → ⊥) → P (slot + shift)
    go (inl e) = let same : slot ≡ slot + shift = omega (arith, e) in subst P same p
    go (inr h) = let same : slot + 1 ≡ slot + shift = omega (arith, h) in subst P same q

-- one of two coins, by which of two slots is low
first-coin : (c d p q : Bool) → p ≡ true → q ≡ false → ((c && p) || (d && q)) ≡ c
first-coin c d p q e f = (λ i. (c && e i) || (d && f i)) ∙ go c d
  where
    go : (c d : Bool) → ((c && true) || (d && false)) ≡ c
    go true d = refl
    go false true = refl
    go false false = refl

second-coin : (c d p q : Bool) → p ≡ false → q ≡ true → ((c && p) || (d && q)) ≡ d
second-coin c d p q e f = (λ i. (c && e i) || (d && f i)) ∙ go c d
  where
    go : (c d : Bool) → ((c && false) || (d && true)) ≡ d
    go true true = refl
    go true false = refl
    go false true = refl
    go false false = refl

back-one : (slot : ℕ) → slot ≡ slot + 1 - 1
back-one slot = omega arith

module _ (R : Region) (height first k : ℕ) (accepted : Accepted R) (frame : IsFrame R height first) (lows : List ℕ) (low : AreLowSlots R height first k lows) where
  -- the row of a corner is within the height
  pub row-within : (v : Corner) → is_corner_of R v ≡ true → row_of v < height
  row-within v of_region = omega (arith, frame.rows, (corner-within R v accepted.placed of_region).0)

  abbrev is_low : Corner → ℕ → Bool
  is_low v slot = string_bit height lows (row_of v) slot

  -- no low slot of another corner is within one of the slot of a corner of the class
  only-own : (v : Corner) (slot : ℕ) → is_corner_of R v ≡ true → is_of_class R k v ≡ true → first ≤ column R.kind v + 1 → slot ≤ slot_of R.kind first v + 1
      → slot_of R.kind first v ≤ slot + 1 → is_low v slot ≡ true → (slot ≡ slot_of R.kind first v) × (is_inner R v ≡ true)
  only-own v slot of_region of_class near upper lower e = go (low.only (row_of v) slot (row-within v of_region) e)
    where
      same : (w : Corner) → is_inner R w ≡ true → is_of_class R k w ≡ true → row_of w ≡ row_of v → slot_of R.kind first w ≡ slot → w ≡ v
      same w inner class row place =
          let behind = frame.columns w inner in
          one-corner R.kind w v (inner-corner R w inner) (region-corner R v of_region) (eqb-true _ _ class ∙ sym (eqb-true _ _ of_class)) (omega (arith, row))
          (omega (arith, behind, near, upper, lower, place)) (omega (arith, behind, near, upper, lower, place))

      go : (w : Corner) × (is_inner R w ≡ true) × (is_of_class R k w ≡ true) × (row_of w ≡ row_of v) × (slot_of R.kind first w ≡ slot) → (slot ≡ slot_of R.kind first v) × (is_inner R v ≡ true)
      go (w, inner, class, row, place) =
          let e = same w inner class row place in
          (sym place ∙ ap (slot_of R.kind first) e, subst (λ (u : Corner). is_inner R u ≡ true) e inner)

  -- The slots beside that of a corner of the class aren't low, and neither is its own where it is no inner corner.
  after-low : (v : Corner) → is_corner_of R v ≡ true → is_of_class R k v ≡ true → first ≤ column R.kind v + 1 → is_low v (slot_of R.kind first v + 1) ≡ false
  after-low v of_region of_class near =
      false_from_ne_true _ (λ e. let own = only-own v (slot_of R.kind first v + 1) of_region of_class near (omega arith) (omega arith) e in omega (arith, own.0))

  before-low : (v : Corner) → is_corner_of R v ≡ true → is_of_class R k v ≡ true → first ≤ column R.kind v + 1 → is_low v (slot_of R.kind first v - 1) ≡ false
  before-low v of_region of_class near =
      false_from_ne_true _ (λ e. let own = only-own v (slot_of R.kind first v - 1) of_region of_class near (omega arith) (omega arith) e in omega (arith, own.0, near))

  pub inner-after : (v : Corner) → is_inner R v ≡ true → is_of_class R k v ≡ true → is_low v (slot_of R.kind first v + 1) ≡ false
  inner-after v inner of_class = let behind = frame.columns v inner in after-low v (inner-of_region R v inner) of_class (omega (arith, behind))

  pub inner-before : (v : Corner) → is_inner R v ≡ true → is_of_class R k v ≡ true → is_low v (slot_of R.kind first v - 1) ≡ false
  inner-before v inner of_class = let behind = frame.columns v inner in before-low v (inner-of_region R v inner) of_class (omega (arith, behind))

  outer-low : (v : Corner) → is_corner_of R v ≡ true → is_of_class R k v ≡ true → first ≤ column R.kind v + 1 → is_inner R v ≡ false → is_low v (slot_of R.kind first v) ≡ false
  outer-low v of_region of_class near outer =
      false_from_ne_true _ (λ e. let own = only-own v (slot_of R.kind first v) of_region of_class near (omega arith) (omega arith) e in cc (own.1, outer))

  -- ---- free slots

  module _ (free : List ℕ) (are_free : AreFreeSlots height lows free) where
    abbrev is_free : Corner → ℕ → Bool
    is_free v slot = string_bit height free (row_of v) slot

    free-low : (v : Corner) (slot : ℕ) → is_corner_of R v ≡ true → 1 ≤ slot → is_free v slot ≡ (is_low v slot || is_low v (slot - 1))
    free-low v slot of_region l = are_free (row_of v) slot (row-within v of_region) l

    -- both slots of an inner corner of the class are free
    pub inner-free : (v : Corner) (shift : ℕ) → is_inner R v ≡ true → is_of_class R k v ≡ true → shift ≤ 1 → is_free v (slot_of R.kind first v + shift) ≡ true
    inner-free v shift inner of_class l =
        let of_region = inner-of_region R v inner in
        let own = low.has v inner of_class in
        let behind = slot-not_first R height first frame v inner in
        at-end (λ (s : ℕ). is_free v s ≡ true) (slot_of R.kind first v) shift l
        (free-low v (slot_of R.kind first v) of_region (omega (arith, behind)) ∙ or_left _ _ own)
        (free-low v (slot_of R.kind first v + 1) of_region (omega arith) ∙ or_right _ _ (subst (λ (s : ℕ). is_low v s ≡ true) (back-one (slot_of R.kind first v)) own))

    -- neither slot of another corner of the class is
    pub outer-free : (v : Corner) (shift : ℕ) → is_corner_of R v ≡ true → is_of_class R k v ≡ true → first ≤ column R.kind v + 1 → is_inner R v ≡ false → shift ≤ 1
        → is_free v (slot_of R.kind first v + shift) ≡ false
    outer-free v shift of_region of_class near outer l =
        let own = outer-low v of_region of_class near outer in
        at-end (λ (s : ℕ). is_free v s ≡ false) (slot_of R.kind first v) shift l
        (free-low v (slot_of R.kind first v) of_region (omega (arith, near)) ∙ or_from _ _ own (before-low v of_region of_class near))
        (free-low v (slot_of R.kind first v + 1) of_region (omega arith)
        ∙ or_from _ _ (after-low v of_region of_class near) (subst (λ (s : ℕ). is_low v s ≡ false) (back-one (slot_of R.kind first v)) own))

  -- ---- coins

  module _ (coins : List ℕ) where
    abbrev is_coin : Corner → ℕ → Bool
    is_coin v slot = string_bit height coins (row_of v) slot

    -- both slots of an inner corner of the class have the coin at its low slot
    pub inner-coin : (bit : Bool) (v : Corner) (shift : ℕ) → is_inner R v ≡ true → is_of_class R k v ≡ true → is_coin v (slot_of R.kind first v) ≡ bit → shift ≤ 1
        → coin_bit height coins lows (row_of v) (slot_of R.kind first v + shift) ≡ bit
    inner-coin bit v shift inner of_class coin l =
        let own = low.has v inner of_class in
        at-end (λ (s : ℕ). coin_bit height coins lows (row_of v) s ≡ bit) (slot_of R.kind first v) shift l
        (first-coin (is_coin v (slot_of R.kind first v)) (is_coin v (slot_of R.kind first v - 1)) _ _ own (inner-before v inner of_class) ∙ coin)
        (second-coin (is_coin v (slot_of R.kind first v + 1)) (is_coin v (slot_of R.kind first v + 1 - 1)) _ _ (inner-after v inner of_class)
        (subst (λ (s : ℕ). is_low v s ≡ true) (back-one (slot_of R.kind first v)) own)
        ∙ subst (λ (s : ℕ). is_coin v s ≡ bit) (back-one (slot_of R.kind first v)) coin)
