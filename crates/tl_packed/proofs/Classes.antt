-- The strings that heights are packed into class by class.
use Rattle.std.proofs.Common.{◌+◌, ◌≡◌, ℕ, ◌<◌, ◌⊎◌, inl, inr, true, List, length, refl, sym, ◌∙◌, ap, subst, arith, ℤ}
use Rattle.std.specs.Prelude.{Vec}
use Rattle.std.specs.Vec.{with_items}
use Rattle.std.proofs.lemmas.Bool.{cases_eq}
use Rattle.std.proofs.lemmas.List.{with_items_is}
use Rattle.tl_definitions.specs.declared.Kind.{Kind}
use Rattle.tl_definitions.specs.declared.Kind.TheVariants.{Square, Triangle}
use Rattle.tl_definitions.specs.declared.Corner.{Corner}
use Rattle.tl_definitions.specs.Lattice.{classes}
use Rattle.tl_definitions.specs.Region.{Region}
use Rattle.tl_definitions.specs.Accepted.{Accepted}
use Rattle.tl_definitions.specs.Heights.{AreLawful}
use Rattle.tl_strings.specs.Strings.{slot_of, string_bit}
use Rattle.tl_layout.specs.declared.layout.Layout.{Layout}
use Rattle.tl_layout.specs.Layouts.{IsLayoutOf, size_of}
use Rattle.tl_pack.specs.Packs.{AreHeld, HasSlot, HoldsClass}
use Rattle.tl_pack.proofs.Stated.{packed-held}
use Rattle.tl_packed.specs.declared.strings.Strings.{Strings}
use Rattle.tl_packed.specs.OfClasses.{of_class, third_size}
use Rattle.tl_packed.specs.Packs.{Packs}
use Rattle.tl_packed.proofs.Inside.{slot-inside}

-- The words of a class hold the marks of its corners, and no others.
pub record IsPackedClass (R : Region) (l : Layout) (numbers : List ℤ) (class : ℕ) (words : List ℕ) : Type 0 where
  pub size : length words ≡ size_of l
  pub holds : HoldsClass R l numbers class words
  pub only : (row slot : ℕ) → row < l.height → string_bit l.height words row slot ≡ true → (v : Corner) × HasSlot R.kind l.first class row slot v

-- and so does a Vec, whose words were overwritten by these
pub class-written : {Z : Type 0} (R : Region) (l : Layout) (numbers : List ℤ) (class : ℕ) (v : Vec ℕ Z) (words now : List ℕ) → now ≡ v.items → length words ≡ length now → length v.items ≡ size_of l
    → HoldsClass R l numbers class words
    → ((row slot : ℕ) → row < l.height → string_bit l.height words row slot ≡ true → (v : Corner) × HasSlot R.kind l.first class row slot v)
    → IsPackedClass R l numbers class (with_items v words).items
class-written R l numbers class v words now value kept size holds only =
    let long : length words ≡ length v.items = kept ∙ ap length value in
    subst (IsPackedClass R l numbers class) (sym (with_items_is v words (long ∙ sym v.ok.0))) (record { size = long ∙ size; holds = holds; only = only })

-- what holds of the classes of a lattice
pub by-class : (k : Kind) (P : ℕ → Type 0) → P 0 → P 1 → (k ≡ Triangle → P 2) → (class : ℕ) → class < classes k → P class
by-class k P zeroth first second class few = go (cases_eq class 0) (cases_eq class 1)
  where
    last : (k : Kind) → class < classes k → (class ≡ 0 → ⊥) → (class ≡ 1 → ⊥) → (k ≡ Triangle) × (class ≡ 2)
    last Square h m n = absurd (omega (arith, h, m, n))
    last Triangle h m n = (refl, omega (arith, h, m, n))

    go : (class ≡ 0) ⊎ (class ≡ 0 → ⊥) → (class ≡ 1) ⊎ (class ≡ 1 → ⊥) → P class
    go (inl e) n = subst P (sym e) zeroth
    go (inr m) (inl e) = subst P (sym e) first
    go (inr m) (inr n) = let (triangle, e) = last k few m n in subst P (sym e) (second triangle)

pub classes-packed : (R : Region) (l : Layout) (s : Strings) (numbers : List ℤ) → Accepted R → IsLayoutOf R l → AreLawful R numbers → IsPackedClass R l numbers 0 s.first.items
    → IsPackedClass R l numbers 1 s.second.items → length s.third.items ≡ third_size l.kind (size_of l) → (R.kind ≡ Triangle → IsPackedClass R l numbers 2 s.third.items)
    → Packs R l s numbers
classes-packed R l s numbers accepted layout lawful first second size third = record {
  accepted = ∣ accepted ∣₁;
  layout = ∣ layout ∣₁;
  size = record { first = first.size; second = second.size; third = size };
  lawful = lawful;
  holds = λ v of_region near reached. held.marks v of_region near reached (slot-inside R l layout v (slot_of R.kind l.first v + 0) of_region reached (omega arith));
  only = λ class row slot h low t. ∣ only class h row slot low t ∣₁;
}
  where
    held : AreHeld R l (of_class s) 0 numbers
    held = packed-held R l numbers s.first.items s.second.items s.third.items lawful first.holds second.holds (λ e. (third e).holds)

    AreSlots : ℕ → Type 0
    AreSlots class = (row slot : ℕ) → row < l.height → string_bit l.height (of_class s class) row slot ≡ true → (v : Corner) × HasSlot R.kind l.first class row slot v

    only : (class : ℕ) → class < classes R.kind → AreSlots class
    only = by-class R.kind AreSlots first.only second.only (λ e. (third e).only)
