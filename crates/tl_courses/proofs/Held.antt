-- The bits after the first classes hold the marks after as many classes.
use Rattle.std.proofs.Common.{◌≡◌, ℕ, zero, suc, ◌+◌, ◌-◌, ◌%◌, ◌<◌, ◌≤◌, ◌⊎◌, inl, inr, Bool, false, cond, eqb, List, length, refl, sym, ◌∙◌, ap, subst, arith, ℤ}
use Rattle.std.proofs.lemmas.Bool.{cases_lt, eq-eqb, false_from_ne_true, ne_eqb, or_from}
use Rattle.tl_definitions.specs.declared.Kind.{Kind}
use Rattle.tl_definitions.specs.declared.Kind.TheVariants.{Square, Triangle}
use Rattle.tl_definitions.specs.Lattice.{classes}
use Rattle.tl_definitions.specs.Region.{Region}
use Rattle.tl_definitions.specs.Heights.{AreLawful}
use Rattle.tl_steps.specs.Stepping.{AreSwept, is_of_class}
use Rattle.tl_steps.proofs.Stated.{class-lawful}
use Rattle.tl_strings.specs.Strings.{string_bit, word_place}
use Rattle.tl_layout.specs.declared.layout.Layout.{Layout}
use Rattle.tl_layout.specs.Slots.{AreFree}
use Rattle.tl_packing.specs.Packing.{AreFreeSlots, AreLowSlots, AreSameBitsBut, AreSteppedSquareBits, AreSteppedTriangleBits, HoldsBits, IsFrame}
use Rattle.tl_packing.proofs.Stated.{slot-not_first, square-bound, square_bits-held, triangle-bound, triangle_bits-held}
use Rattle.tl_packed.specs.OfClasses.{of_class}
use Rattle.tl_coupling.specs.Carried.{class_swept}
use Rattle.tl_coupling.specs.SweptNumbers.{class_swept-swept}
use Rattle.tl_string_sweep.proofs.Inner.{frame-of, free-slots, low-slots, past-false}
use Rattle.tl_courses.specs.Courses.{Course, IsCourseOf, after, bits_of, class_at, class_stepped, stepped, steps_of, time_at}
use Rattle.tl_courses.proofs.Counted.{counted}

within-classes : (k : Kind) (p : ℕ) → class_at k p < classes k
within-classes Square p = omega arith
within-classes Triangle p = omega arith

-- ---- the steps of one class

module _ (kind : Kind) (k : ℕ) (coin free : ℕ → ℕ → Bool) (bits : ℕ → ℕ → ℕ → Bool) where
  pub others-stay : AreSameBitsBut k bits (class_stepped kind k coin free bits)
  others-stay class row slot other = ap (λ (t : Bool). cond t (stepped kind k coin free bits row slot) (bits class row slot)) (ne_eqb class k other)

  pub own-steps : (row slot : ℕ) → class_stepped kind k coin free bits k row slot ≡ stepped kind k coin free bits row slot
  own-steps row slot = ap (λ (t : Bool). cond t (stepped kind k coin free bits row slot) (bits k row slot)) (eq-eqb k k refl)

  -- a slot that isn't free keeps its bit
  pub bound-stays : (row slot : ℕ) → free row slot ≡ false → stepped kind k coin free bits row slot ≡ bits k row slot
  bound-stays row slot = go kind
    where
      go : (j : Kind) → free row slot ≡ false → stepped j k coin free bits row slot ≡ bits k row slot
      go Square =
          square-bound (eqb k 1) (bits k row slot) (bits ((k + 1) % 2) row (slot - 1)) (bits ((k + 1) % 2) row (slot + 1))
          (bits ((k + 1) % 2) (row - 1) slot) (bits ((k + 1) % 2) (row + 1) slot) (coin row slot) (free row slot)
      go Triangle =
          triangle-bound k (bits k row slot)
          (bits ((k + 1) % 3) row (slot - 1)) (bits ((k + 1) % 3) (row - 1) slot) (bits ((k + 1) % 3) (row + 1) (slot + 1))
          (bits ((k + 2) % 3) row (slot + 1)) (bits ((k + 2) % 3) (row - 1) (slot - 1)) (bits ((k + 2) % 3) (row + 1) slot)
          (coin row slot) (free row slot)

module _ (height k : ℕ) (coin free : ℕ → ℕ → Bool) (bits : ℕ → ℕ → ℕ → Bool) (later : (row slot : ℕ) → row < height → slot < 64 → free row slot ≡ false) where
  square-steps : AreSteppedSquareBits 1 height (eqb k 1) (bits ((k + 1) % 2)) coin free (bits k) (class_stepped Square k coin free bits k)
  square-steps = record {
    stepped = λ row slot above within not_first. own-steps Square k coin free bits row slot;
    kept = λ row slot above within first. own-steps Square k coin free bits row slot ∙ bound-stays Square k coin free bits row slot (later row slot within first);
  }

  triangle-steps : AreSteppedTriangleBits 1 height k (bits ((k + 1) % 3)) (bits ((k + 2) % 3)) coin free (bits k) (class_stepped Triangle k coin free bits k)
  triangle-steps = record {
    stepped = λ row slot above within not_first. own-steps Triangle k coin free bits row slot;
    kept = λ row slot above within first. own-steps Triangle k coin free bits row slot ∙ bound-stays Triangle k coin free bits row slot (later row slot within first);
  }

-- ---- the steps of all classes

module _ (R : Region) (bits : ℕ → ℕ → Bool) (c : Course) (is : IsCourseOf R bits c) where
  abbrev l : Layout
  l = c.layout

  pub frame : IsFrame R l.height l.first
  frame = frame-of R l is.of_region

  abbrev lows : ℕ → List ℕ
  lows class = of_class c.slots.lows class

  abbrev free : ℕ → List ℕ
  free class = of_class c.slots.free class

  pub low-of : (class : ℕ) → class < classes R.kind → AreLowSlots R l.height l.first class (lows class)
  low-of class below = low-slots R l is.of_region class (lows class) (is.are_slots.lows.each class below)

  pub free-of : (class : ℕ) → class < classes R.kind → AreFreeSlots l.height (lows class) (free class)
  free-of class below = free-slots R l is.of_region class (lows class) (is.are_slots.lows.each class below) (free class) (is.are_slots.free class below)

  -- no slot of the first strip is low, and so none is free
  first-outer : (class row slot : ℕ) → class < classes R.kind → row < l.height → slot < 64 → string_bit l.height (lows class) row slot ≡ false
  first-outer class row slot below within first =
      false_from_ne_true _ (λ low.
      let (v, inner, of_class, row_is, slot_is) = (low-of class below).only row slot within low in
      omega (arith, slot-not_first R l.height l.first frame v inner, slot_is, first))

  pub first-bound : (class row slot : ℕ) → class < classes R.kind → row < l.height → slot < 64 → string_bit l.height (free class) row slot ≡ false
  first-bound class row slot below within first = go (cases_lt (word_place l.height row slot) (length (lows class)))
    where
      are : AreFree l.height (lows class) (free class)
      are = is.are_slots.free class below

      go : (word_place l.height row slot < length (lows class)) ⊎ (length (lows class) ≤ word_place l.height row slot) → string_bit l.height (free class) row slot ≡ false
      go (inl inside) =
          are.each row slot within inside ∙ or_from _ _ (first-outer class row slot below within first) (first-outer class row (slot - 1) below within (omega (arith, first)))
      go (inr past) = past-false l.height (free class) row slot (omega (arith, past, are.size))

  step-held : (class time shift : ℕ) → class < classes R.kind → shift ≤ 1 → (numbers : List ℤ) (old : ℕ → ℕ → ℕ → Bool) → AreLawful R numbers
      → HoldsBits R l.first numbers old shift
      → HoldsBits R l.first (class_swept R (bits time) class numbers) (class_stepped l.kind class (c.coin time class) (bits_of l.height c.slots.free class) old) shift
  step-held class time shift below either numbers old lawful holds = go l.kind is.of_region.kind
    where
      swept-of : AreSwept R numbers (class_swept R (bits time) class numbers) (bits time) (is_of_class R class)
      swept-of = class_swept-swept R (bits time) class numbers is.accepted.placed lawful.heights

      go : (k : Kind) → k ≡ R.kind
          → HoldsBits R l.first (class_swept R (bits time) class numbers) (class_stepped k class (c.coin time class) (bits_of l.height c.slots.free class) old) shift
      go Square kind =
          square_bits-held R l.height l.first class shift is.accepted frame numbers (class_swept R (bits time) class numbers) (bits time) lawful swept-of
          old (class_stepped Square class (c.coin time class) (bits_of l.height c.slots.free class) old) (others-stay Square class (c.coin time class) (bits_of l.height c.slots.free class) old) holds
          (c.coin time class) (is.coins time class below) (lows class) (free class) (low-of class below) (free-of class below) either (sym kind)
          (square-steps l.height class (c.coin time class) (bits_of l.height c.slots.free class) old (λ row slot. first-bound class row slot below))
      go Triangle kind =
          triangle_bits-held R l.height l.first class shift is.accepted frame numbers (class_swept R (bits time) class numbers) (bits time) lawful swept-of
          old (class_stepped Triangle class (c.coin time class) (bits_of l.height c.slots.free class) old) (others-stay Triangle class (c.coin time class) (bits_of l.height c.slots.free class) old) holds
          (c.coin time class) (is.coins time class below) (lows class) (free class) (low-of class below) (free-of class below) either (sym kind)
          (triangle-steps l.height class (c.coin time class) (bits_of l.height c.slots.free class) old (λ row slot. first-bound class row slot below))

  pub class-within : (p : ℕ) → class_at l.kind p < classes R.kind
  class-within p = subst (λ (k : Kind). class_at l.kind p < classes k) is.of_region.kind (within-classes l.kind p)

  abbrev numbers_after : ℕ → List ℤ → List ℤ
  numbers_after p numbers = counted R bits l.kind c.from p numbers

  lawful-after : (p : ℕ) (numbers : List ℤ) → AreLawful R numbers → AreLawful R (numbers_after p numbers)
  lawful-after zero numbers lawful = lawful
  lawful-after (suc p) numbers lawful =
      let before = lawful-after p numbers lawful in
      class-lawful R (numbers_after p numbers) (numbers_after (suc p) numbers) is.accepted before (bits (time_at l.kind c.from p)) (class_at l.kind p)
      (class_swept-swept R (bits (time_at l.kind c.from p)) (class_at l.kind p) (numbers_after p numbers) is.accepted.placed before.heights)

  after-held : (p shift : ℕ) → shift ≤ 1 → (numbers : List ℤ) → AreLawful R numbers → HoldsBits R l.first numbers (bits_of l.height c.start) shift
      → HoldsBits R l.first (numbers_after p numbers) (after c p) shift
  after-held zero shift either numbers lawful holds = holds
  after-held (suc p) shift either numbers lawful holds =
      step-held (class_at l.kind p) (time_at l.kind c.from p) shift (class-within p) either (numbers_after p numbers) (after c p)
      (lawful-after p numbers lawful) (after-held p shift either numbers lawful holds)

  pub all-held : (shift : ℕ) → shift ≤ 1 → (numbers : List ℤ) → AreLawful R numbers → HoldsBits R l.first numbers (bits_of l.height c.start) shift
      → HoldsBits R l.first (counted R bits l.kind c.from (steps_of c) numbers) (after c (steps_of c)) shift
  all-held shift = after-held (steps_of c) shift
