-- Strings hold the marks of one tiling at most.
use Rattle.std.specs.Prelude.{◌≡◌, List, ℤ}
use Rattle.std.specs.Coded.{Coded, Coded-set, codes}
use Rattle.std.proofs.Common.{ℕ, ◌+◌, ◌≤◌, true, sym, ◌∙◌, arith}
use Rattle.std.proofs.Math.Logic.{∥∥₁_elim}
use Rattle.std.proofs.Math.Bool.{Bool-set}
use Rattle.std.proofs.Math.Path.{Σ_path, to_path_p}
use Rattle.std.proofs.Math.Nat.{ℕ_set}
use Rattle.std.proofs.Math.Dec.{T_prop}
use Rattle.tl_definitions.specs.declared.Corner.{Corner}
use Rattle.tl_definitions.specs.Region.{Region, is_inner}
use Rattle.tl_definitions.specs.Accepted.{Accepted}
use Rattle.tl_definitions.specs.Heights.{AreLawful}
use Rattle.tl_closing.proofs.Stated.{inner-of_region}
use Rattle.tl_marks.specs.Marks.{mark}
use Rattle.tl_marks.proofs.Stated.{numbers-told}
use Rattle.tl_strings.specs.Strings.{column}
use Rattle.tl_layout.specs.declared.layout.Layout.{Layout}
use Rattle.tl_layout.specs.Layouts.{IsLayoutOf}
use Rattle.tl_height.specs.OneProof.{AreLawful-prop}
use Rattle.tl_packing.specs.Packing.{HoldsMarks}
use Rattle.tl_packed.specs.declared.strings.Strings.{Strings}
use Rattle.tl_packed.specs.OfClasses.{of_class}
use Rattle.tl_packed.specs.Packs.{IsPacked, Packs}

-- Heights whose marks the same strings hold, each as many slots on, are the same.
pub held-one : (R : Region) (l : Layout) (strings : ℕ → List ℕ) (shift : ℕ) (numbers others : List ℤ) → Accepted R → IsLayoutOf R l → AreLawful R numbers → AreLawful R others
    → HoldsMarks R l.height l.first numbers strings shift → HoldsMarks R l.height l.first others strings shift → others ≡ numbers
held-one R l strings shift numbers others accepted layout lawful other_lawful holds other_holds =
    numbers-told R numbers others accepted lawful other_lawful marks
  where
    marks : (w : Corner) → is_inner R w ≡ true → mark R others w ≡ mark R numbers w
    marks w inner =
        let of_region = inner-of_region R w inner in
        let near : l.first ≤ column R.kind w + 1 = omega (arith, (layout.stands w inner).column) in
        let reached : column R.kind w ≤ column R.kind w + 1 = omega arith in
        sym (other_holds w of_region near (w, inner, reached)) ∙ holds w of_region near (w, inner, reached)

numbers-set : IsSet (List ℤ)
numbers-set = let stored : Coded (List ℤ) = hlevel codes in Coded-set stored

pub packed-one : (R : Region) (l : Layout) (s : Strings) (p q : IsPacked R l s) → p.0 ≡ q.0
packed-one R l s p q =
    ∥∥₁_elim p.1.accepted (numbers-set p.0 q.0)
    (λ accepted. ∥∥₁_elim p.1.layout (numbers-set p.0 q.0)
    (λ layout. held-one R l (of_class s) 0 q.0 p.0 accepted layout q.1.lawful p.1.lawful q.1.holds p.1.holds))

Packs-prop : (R : Region) (l : Layout) (s : Strings) (numbers : List ℤ) → IsProp (Packs R l s numbers)
Packs-prop R l s numbers = hlevel (ℕ_set, AreLawful-prop, T_prop, Bool-set)

pub IsPacked-prop : (R : Region) (l : Layout) (s : Strings) → IsProp (IsPacked R l s)
IsPacked-prop R l s p q = Σ_path (packed-one R l s p q) (to_path_p (λ i. Packs R l s (packed-one R l s p q i)) (Packs-prop R l s _ _ _))
