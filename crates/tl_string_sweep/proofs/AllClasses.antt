-- A sweep of both ends of a pair: the steps of all classes in turn.
use Rattle.std.proofs.Common.{◌≡◌, ℕ, ◌+◌, ◌*◌, ◌%◌, eqb, ◌<◌, Bool, true, false, List, refl, sym, ap, subst, arith, ℤ}
use Rattle.std.specs.Prelude.{fold}
use Rattle.tl_lists.specs.Lists.{upto}
use Rattle.tl_definitions.specs.declared.Kind.{Kind}
use Rattle.tl_definitions.specs.declared.Kind.TheVariants.{Square, Triangle}
use Rattle.tl_definitions.specs.Lattice.{classes}
use Rattle.tl_definitions.specs.Region.{Region}
use Rattle.tl_definitions.specs.Accepted.{Accepted}
use Rattle.tl_layout.specs.declared.layout.Layout.{Layout}
use Rattle.tl_layout.specs.Layouts.{IsLayoutOf, size_of}
use Rattle.tl_packing.specs.Packing.{AreFreeSlots, AreLowSlots, AreSteppedSquares, AreSteppedTriangles, HasCoins, HoldsMarks}
use Rattle.tl_pack.specs.Packs.{strings_of}
use Rattle.tl_packed.specs.declared.strings.Strings.{Strings}
use Rattle.tl_packed.specs.OfClasses.{of_class}
use Rattle.tl_packed.specs.Packs.{HoldEnds}
use Rattle.tl_coupling.specs.Carried.{class_swept, swept}
use Rattle.tl_coupling.specs.SweptNumbers.{swept-lawful}
use Rattle.tl_string_sweep.specs.declared.slots.Slots.{Slots}
use Rattle.tl_string_sweep.specs.Slots.{AreSlots}
use Rattle.tl_string_sweep.specs.Sweeps.{AreInside}
use Rattle.tl_string_sweep.proofs.Inner.{frame-of, free-inside, free-slots, inner-room, low-slots}
use Rattle.tl_string_sweep.proofs.OneClass.{AreEnds, AreSame, squares-class, triangles-class, with_class}

-- a sweep by its classes
pub swept-squares : (R : Region) (bits : ℕ → Bool) (numbers : List ℤ) → R.kind ≡ Square → swept R bits numbers ≡ class_swept R bits 1 (class_swept R bits 0 numbers)
swept-squares R bits numbers kind = ap (λ (k : Kind). fold (λ h class. class_swept R bits class h) numbers (upto (classes k))) kind

pub swept-triangles : (R : Region) (bits : ℕ → Bool) (numbers : List ℤ) → R.kind ≡ Triangle
    → swept R bits numbers ≡ class_swept R bits 2 (class_swept R bits 1 (class_swept R bits 0 numbers))
swept-triangles R bits numbers kind = ap (λ (k : Kind). fold (λ h class. class_swept R bits class h) numbers (upto (classes k))) kind

module _ (R : Region) (l : Layout) (slots : Slots) (bits : ℕ → Bool) (coins : List ℕ) (accepted : Accepted R) (layout : IsLayoutOf R l) (are : AreSlots R l slots)
    (has : HasCoins R l.height l.first bits coins) where
  abbrev lows : ℕ → List ℕ
  lows class = of_class slots.lows class

  abbrev free : ℕ → List ℕ
  free class = of_class slots.free class

  of-kind : (k : Kind) → R.kind ≡ k → (class : ℕ) → class < classes k → class < classes R.kind
  of-kind k kind class below = subst (λ (j : Kind). class < classes j) (sym kind) below

  -- the fixed strings of each class
  low-of : (class : ℕ) → class < classes R.kind → AreLowSlots R l.height l.first class (lows class)
  low-of class below = low-slots R l layout class (lows class) (are.lows.each class below)

  free-of : (class : ℕ) → class < classes R.kind → AreFreeSlots l.height (lows class) (free class)
  free-of class below = free-slots R l layout class (lows class) (are.lows.each class below) (free class) (are.free class below)

  inside-of : (class : ℕ) → class < classes R.kind → AreInside l.height (free class)
  inside-of class below = free-inside R l layout class (lows class) (are.lows.each class below) (free class) (are.free class below)

  abbrev Ends : (ℕ → List ℕ) → List ℤ → List ℤ → Type 0
  Ends strings low high = AreEnds R l.height l.first strings low high

  same-ends : (strings : ℕ → List ℕ) (low high low' high' : List ℤ) → low ≡ low' → high ≡ high' → Ends strings low high → Ends strings low' high'
  same-ends strings low high low' high' e f ends = subst (λ (h : List ℤ). Ends strings low' h) f (subst (λ (h : List ℤ). Ends strings h high) e ends)

  module _ (kind : R.kind ≡ Square) (first second third first' second' : List ℕ) where
    -- the steps of one class, and then of both
    square-steps : (class : ℕ) → class < 2 → (words : List ℕ) (old new : ℕ → List ℕ) → AreSame old (with_class class words new)
        → (AreInside l.height (free class)
        → AreSteppedSquares l.height (with_class class words new ((class + 1) % 2)) coins (lows class) (free class) (eqb class 1) (with_class class words new class) (new class))
        → (low high : List ℤ) → Ends old low high → Ends new (class_swept R bits class low) (class_swept R bits class high)
    square-steps class within words old new same steps =
        let below = of-kind Square kind class within in
        squares-class R l.height l.first accepted (frame-of R l layout) bits coins has class (lows class) (free class) (low-of class below) (free-of class below)
        words old new same kind (steps (inside-of class below))

    pub squares-swept : (AreInside l.height (free 0) → AreSteppedSquares l.height second coins (lows 0) (free 0) false first first')
        → (AreInside l.height (free 1) → AreSteppedSquares l.height first' coins (lows 1) (free 1) true second second')
        → (low high : List ℤ) → Ends (strings_of first second third) low high → Ends (strings_of first' second' third) (swept R bits low) (swept R bits high)
    squares-swept steps_0 steps_1 low high ends =
        same-ends (strings_of first' second' third) _ _ _ _ (sym (swept-squares R bits low kind)) (sym (swept-squares R bits high kind))
        (square-steps 1 (omega arith) second (strings_of first' second third) (strings_of first' second' third) (record { first = refl; second = refl; third = refl }) steps_1 _ _
        (square-steps 0 (omega arith) first (strings_of first second third) (strings_of first' second third) (record { first = refl; second = refl; third = refl }) steps_0 low high ends))

  module _ (kind : R.kind ≡ Triangle) (first second third first' second' third' : List ℕ) where
    -- the steps of one class, and then of all three
    triangle-steps : (class : ℕ) → class < 3 → (words : List ℕ) (old new : ℕ → List ℕ) → AreSame old (with_class class words new)
        → (AreInside l.height (free class)
        → AreSteppedTriangles l.height class (with_class class words new ((class + 1) % 3)) (with_class class words new ((class + 2) % 3)) coins (lows class) (free class)
        (with_class class words new class) (new class))
        → (low high : List ℤ) → Ends old low high → Ends new (class_swept R bits class low) (class_swept R bits class high)
    triangle-steps class within words old new same steps =
        let below = of-kind Triangle kind class within in
        triangles-class R l.height l.first accepted (frame-of R l layout) bits coins has class (lows class) (free class) (low-of class below) (free-of class below)
        words old new same kind (steps (inside-of class below))

    pub triangles-swept : (AreInside l.height (free 0) → AreSteppedTriangles l.height 0 second third coins (lows 0) (free 0) first first')
        → (AreInside l.height (free 1) → AreSteppedTriangles l.height 1 third first' coins (lows 1) (free 1) second second')
        → (AreInside l.height (free 2) → AreSteppedTriangles l.height 2 first' second' coins (lows 2) (free 2) third third')
        → (low high : List ℤ) → Ends (strings_of first second third) low high → Ends (strings_of first' second' third') (swept R bits low) (swept R bits high)
    triangles-swept steps_0 steps_1 steps_2 low high ends =
        same-ends (strings_of first' second' third') _ _ _ _ (sym (swept-triangles R bits low kind)) (sym (swept-triangles R bits high kind))
        (triangle-steps 2 (omega arith) third (strings_of first' second' third) (strings_of first' second' third') (record { first = refl; second = refl; third = refl }) steps_2 _ _
        (triangle-steps 1 (omega arith) second (strings_of first' second third) (strings_of first' second' third) (record { first = refl; second = refl; third = refl }) steps_1 _ _
        (triangle-steps 0 (omega arith) first (strings_of first second third) (strings_of first' second third) (record { first = refl; second = refl; third = refl }) steps_0 low high ends)))

-- strings without an inner corner hold the marks of any heights
pub none-swept : (R : Region) (l : Layout) (strings : Strings) (bits : ℕ → Bool) (low high : List ℤ) → Accepted R → IsLayoutOf R l → size_of l < 2 * l.height + 5
    → HoldEnds R l strings low high → HoldEnds R l strings (swept R bits low) (swept R bits high)
none-swept R l strings bits low high accepted layout small ends = record {
  size = ends.size;
  low_lawful = swept-lawful R accepted bits low ends.low_lawful;
  high_lawful = swept-lawful R accepted bits high ends.high_lawful;
  holds = record { low_end = none (swept R bits low) 0; high_end = none (swept R bits high) 1 };
}
  where
    none : (numbers : List ℤ) (shift : ℕ) → HoldsMarks R l.height l.first numbers (of_class strings) shift
    none numbers shift v of_region near (w, inner, reached) = absurd (omega (arith, inner-room R l layout w inner, small))
