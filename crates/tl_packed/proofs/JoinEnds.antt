-- Both ends in one string: the bits of the one end stand where the other has none.
use Rattle.std.proofs.Common.{◌≡◌, ℕ, ◌+◌, ◌-◌, ◌<◌, ◌≤◌, ◌≢◌, Bool, true, false, ◌||◌, List, sym, ◌∙◌, ap, subst, arith, ℤ}
use Rattle.std.proofs.lemmas.Bool.{false_from_ne_true}
use Rattle.std.proofs.Math.Logic.{∥∥₁_elim}
use Rattle.std.proofs.Math.Bool.{or-false}
use Rattle.tl_definitions.specs.declared.Kind.{Kind}
use Rattle.tl_definitions.specs.declared.Corner.{Corner}
use Rattle.tl_definitions.specs.Lattice.{class_of, classes}
use Rattle.tl_definitions.specs.Region.{Region, is_corner_of}
use Rattle.tl_marks.specs.Marks.{mark}
use Rattle.tl_strings.specs.Strings.{column, row_of, slot_of, string_bit}
use Rattle.tl_layout.specs.declared.layout.Layout.{Layout}
use Rattle.tl_layout.specs.Layouts.{IsLayoutOf}
use Rattle.tl_packing.specs.Packing.{IsReached}
use Rattle.tl_packed.specs.declared.strings.Strings.{Strings}
use Rattle.tl_packed.specs.OfClasses.{of_class}
use Rattle.tl_packed.specs.Packs.{HoldEnds, Packs}
use Rattle.tl_packed.specs.Ends.{AreJoined}
use Rattle.tl_packed.proofs.EndsClasses.{class-few}
use Rattle.tl_packed.proofs.Inside.{row-inside, slot-alone, slot-inside}

module _ (R : Region) (l : Layout) (layout : IsLayoutOf R l) where
  -- no bit stands beside the slot of a corner
  beside : (s : Strings) (numbers : List ℤ) → Packs R l s numbers → (v : Corner) (slot : ℕ) → is_corner_of R v ≡ true → l.first ≤ column R.kind v + 1
      → slot ≤ slot_of R.kind l.first v + 1 → slot_of R.kind l.first v ≤ slot + 1 → slot ≢ slot_of R.kind l.first v
      → string_bit l.height (of_class s (class_of R.kind v)) (row_of v) slot ≡ false
  beside s numbers packs v slot of_region near upper lower other =
      false_from_ne_true _
      (λ set. ∥∥₁_elim (packs.only (class_of R.kind v) (row_of v) slot (class-few R.kind v) (row-inside R l layout v of_region) set) (λ p q. absurd p)
      (λ (w, has). other (sym has.slot_is ∙ ap (slot_of R.kind l.first) (slot-alone R l layout v w slot of_region near has upper lower))))

  pub joined-ends : (low high both : Strings) (bottom top : List ℤ) → Packs R l low bottom → Packs R l high top → AreJoined l low high both → HoldEnds R l both bottom top
  joined-ends low high both bottom top low_packs high_packs joined = record {
    size = joined.size;
    low_lawful = low_packs.lawful;
    high_lawful = high_packs.lawful;
    holds = record { low_end = low_end; high_end = high_end };
  }
    where
      few : (v : Corner) → class_of R.kind v < classes l.kind
      few v = subst (λ (k : Kind). class_of R.kind v < classes k) (sym layout.kind) (class-few R.kind v)

      low_end : (v : Corner) → is_corner_of R v ≡ true → l.first ≤ column R.kind v + 1 → IsReached R v
          → string_bit l.height (of_class both (class_of R.kind v)) (row_of v) (slot_of R.kind l.first v + 0) ≡ mark R bottom v
      low_end v of_region near reached =
          let here = slot_of R.kind l.first v + 0 in
          joined.bits (class_of R.kind v) (row_of v) here (few v) (omega (arith, near)) (slot-inside R l layout v here of_region reached (omega arith))
          ∙ ap (λ (t : Bool). string_bit l.height (of_class low (class_of R.kind v)) (row_of v) here || t)
          (beside high top high_packs v (here - 1) of_region near (omega arith) (omega (arith, near)) (λ e. omega (arith, near, e)))
          ∙ or-false _ ∙ low_packs.holds v of_region near reached

      high_end : (v : Corner) → is_corner_of R v ≡ true → l.first ≤ column R.kind v + 1 → IsReached R v
          → string_bit l.height (of_class both (class_of R.kind v)) (row_of v) (slot_of R.kind l.first v + 1) ≡ mark R top v
      high_end v of_region near reached =
          let next = slot_of R.kind l.first v + 1 in
          let back : next - 1 ≡ slot_of R.kind l.first v + 0 = omega arith in
          joined.bits (class_of R.kind v) (row_of v) next (few v) (omega arith) (slot-inside R l layout v next of_region reached (omega arith))
          ∙ ap (λ (t : Bool). t || string_bit l.height (of_class high (class_of R.kind v)) (row_of v) (next - 1))
          (beside low bottom low_packs v next of_region near (omega arith) (omega arith) (λ e. omega (arith, e)))
          ∙ ap (string_bit l.height (of_class high (class_of R.kind v)) (row_of v)) back
          ∙ high_packs.holds v of_region near reached
