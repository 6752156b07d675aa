-- The course of a stretch over a region, and the ends that the strings hold when all its classes are swept.
use Rattle.std.proofs.Common.{◌≡◌, ℕ, ◌+◌, ◌<◌, ◌≤◌, Bool, List, ℤ, length, sym, ◌∙◌, subst, arith, Result, Ok, Err}
use Rattle.std.specs.Prelude.{OnOk}
use Rattle.std.proofs.Math.Logic.{∥∥₁_elim}
use Rattle.std.proofs.Math.Bool.{Bool-set}
use Rattle.std.proofs.Math.Nat.{ℕ_set}
use Rattle.tl_definitions.specs.declared.Corner.{Corner}
use Rattle.tl_definitions.specs.declared.Kind.{Kind}
use Rattle.tl_definitions.specs.declared.Kind.TheVariants.{Square, Triangle}
use Rattle.tl_definitions.specs.Lattice.{class_of, classes}
use Rattle.tl_definitions.specs.Region.{Region}
use Rattle.tl_definitions.specs.Accepted.{Accepted}
use Rattle.tl_definitions.specs.Heights.{AreLawful}
use Rattle.tl_strings.specs.Strings.{slot_of}
use Rattle.tl_closing.proofs.Stated.{corner-within}
use Rattle.tl_layout.specs.declared.layout.Layout.{Layout}
use Rattle.tl_layout.specs.Layouts.{IsLayoutOf}
use Rattle.tl_packing.specs.Packing.{HasCoinBits, HoldsBits, HoldsMarks}
use Rattle.tl_packed.specs.declared.strings.Strings.{Strings}
use Rattle.tl_packed.specs.OfClasses.{AreLows, AreOfLayout, of_class}
use Rattle.tl_packed.specs.Packs.{HoldEnds}
use Rattle.tl_coupling.specs.Carried.{carried_numbers}
use Rattle.tl_coupling.specs.SweptNumbers.{carried-lawful}
use Rattle.tl_string_sweep.specs.declared.slots.Slots.{Slots}
use Rattle.tl_string_sweep.specs.Slots.{AreSlots}
use Rattle.tl_courses.specs.Coins.{coin_of}
use Rattle.tl_courses.specs.Courses.{Course, IsCourseOf, after, bits_of, steps_of}
use Rattle.tl_band.specs.Bands.{AreRowsDone}
use Rattle.tl_band.specs.Stretches.{course_by}

AreSlots-prop : (R : Region) (l : Layout) (slots : Slots) → IsProp (AreSlots R l slots)
AreSlots-prop R l slots = hlevel (ℕ_set, Bool-set)

pub known-slots : (R : Region) (l : Layout) (slots : Slots) → ∥ AreSlots R l slots ∥₁ → AreSlots R l slots
known-slots R l slots known = ∥∥₁_elim known (AreSlots-prop R l slots) (λ s. s)

pub course-of : (R : Region) (l : Layout) (slots : Slots) (start : Strings) (bits : ℕ → ℕ → Bool) (from : ℕ) → Accepted R → IsLayoutOf R l → ∥ AreSlots R l slots ∥₁
    → AreOfLayout l start → ((class : ℕ) (b : ℕ → Bool) → HasCoinBits R l.first class b (coin_of R l.first b class)) → IsCourseOf R bits (course_by R l slots start bits from)
course-of R l slots start bits from accepted layout slots_of size coins = record {
  accepted = accepted;
  of_region = layout;
  are_slots = known-slots R l slots slots_of;
  size = size;
  coins = λ time class within. coins class (bits time);
}

class-few : (k : Kind) (v : Corner) → class_of k v < classes k
class-few Square v = omega arith
class-few Triangle v = omega arith

module _ (R : Region) (bits : ℕ → ℕ → Bool) (c : Course) (is : IsCourseOf R bits c) (both : Strings) (rows : AreRowsDone c 0 c.layout.height both) where
  -- marks that stand in the bits after all classes stand in these strings
  marks-done : (shift : ℕ) (numbers : List ℤ) → HoldsBits R c.layout.first numbers (after c (steps_of c)) shift
      → HoldsMarks R c.layout.height c.layout.first numbers (of_class both) shift
  marks-done shift numbers held v corner column reached =
      let few : class_of R.kind v < classes c.layout.kind = subst (λ (k : Kind). class_of R.kind v < classes k) (sym is.of_region.kind) (class-few R.kind v) in
      let row : v.r + 1 < c.layout.height = omega (arith, is.of_region.height, (corner-within R v is.of_region.placed corner).0) in
      rows (class_of R.kind v) (v.r + 1) (slot_of R.kind c.layout.first v + shift) few (omega arith) row ∙ held v corner column reached

  pub ends-done : AreOfLayout c.layout both
      → ((shift : ℕ) (numbers : List ℤ) → AreLawful R numbers → shift ≤ 1 → HoldsBits R c.layout.first numbers (bits_of c.layout.height c.start) shift
      → HoldsBits R c.layout.first (carried_numbers R bits c.from numbers) (after c (steps_of c)) shift)
      → (low high : List ℤ) → HoldEnds R c.layout c.start low high
      → HoldEnds R c.layout both (carried_numbers R bits c.from low) (carried_numbers R bits c.from high)
  ends-done size in_turn low high held = record {
    size = size;
    low_lawful = carried-lawful R is.accepted bits c.from low held.low_lawful;
    high_lawful = carried-lawful R is.accepted bits c.from high held.high_lawful;
    holds = record {
      low_end = marks-done 0 (carried_numbers R bits c.from low) (in_turn 0 low held.low_lawful (omega arith) held.holds.low_end);
      high_end = marks-done 1 (carried_numbers R bits c.from high) (in_turn 1 high held.high_lawful (omega arith) held.holds.high_end);
    };
  }

pub OnOk-weaker : {T E : Type 0} (r : Result T E) (P Q : Type 0) → (P → Q) → OnOk r P → OnOk r Q
OnOk-weaker (Ok t) P Q f p = f p
OnOk-weaker (Err e) P Q f p = tt

-- what carries the ends of a region carries those of the same region
pub carries-same : (R S : Region) (l m : Layout) (bits : ℕ → ℕ → Bool) (from : ℕ) (start both : Strings) → S ≡ R → m ≡ l
    → ((a b : List ℤ) → HoldEnds R l start a b → HoldEnds R l both (carried_numbers R bits from a) (carried_numbers R bits from b))
    → (low high : List ℤ) → HoldEnds S m start low high → HoldEnds S m both (carried_numbers S bits from low) (carried_numbers S bits from high)
carries-same R S l m bits from start both p q carries low high =
    subst (λ (Q : Region). HoldEnds Q m start low high → HoldEnds Q m both (carried_numbers Q bits from low) (carried_numbers Q bits from high)) (sym p)
    (subst (λ (k : Layout). HoldEnds R k start low high → HoldEnds R k both (carried_numbers R bits from low) (carried_numbers R bits from high)) (sym q) (carries low high))

pub lows-same : (R S : Region) (l m : Layout) (slots : Slots) → S ≡ R → m ≡ l → ∥ AreSlots R l slots ∥₁ → AreLows S m slots.lows
lows-same R S l m slots p q known =
    subst (λ (Q : Region). AreLows Q m slots.lows) (sym p) (subst (λ (k : Layout). AreLows R k slots.lows) (sym q) (known-slots R l slots known).lows)
