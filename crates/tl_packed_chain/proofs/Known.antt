-- What a chain knows of its slots and its pieces.
use Rattle.std.proofs.Common.{◌≡◌, ℕ, Bool, List, ℤ, sym, subst}
use Rattle.std.proofs.Math.Logic.{∥∥₁_elim}
use Rattle.std.proofs.Math.Bool.{Bool-set}
use Rattle.std.proofs.Math.Nat.{ℕ_set}
use Rattle.std.proofs.Math.Dec.{T_prop}
use Rattle.tl_definitions.specs.Region.{Region}
use Rattle.tl_definitions.specs.Accepted.{Accepted}
use Rattle.tl_layout.specs.declared.layout.Layout.{Layout}
use Rattle.tl_layout.specs.declared.piece.Pieces.{Pieces}
use Rattle.tl_layout.specs.Coins.{ArePiecesOf}
use Rattle.tl_layout.specs.Layouts.{IsLayoutOf, size_of}
use Rattle.tl_height.specs.OneProof.{AreLawful-prop}
use Rattle.tl_packed.specs.declared.strings.Strings.{Strings}
use Rattle.tl_packed.specs.OfClasses.{AreLows, AreOfLayout}
use Rattle.tl_packed.specs.Packs.{HoldEnds}
use Rattle.tl_string_sweep.specs.declared.slots.Slots.{Slots}
use Rattle.tl_string_sweep.specs.Slots.{AreSlots}
use Rattle.tl_packed_chain.specs.Ready.{IsReady}

AreSlots-prop : (R : Region) (l : Layout) (slots : Slots) → IsProp (AreSlots R l slots)
AreSlots-prop R l slots = hlevel (ℕ_set, Bool-set)

pub known-slots : (R : Region) (l : Layout) (slots : Slots) → ∥ AreSlots R l slots ∥₁ → AreSlots R l slots
known-slots R l slots known = ∥∥₁_elim known (AreSlots-prop R l slots) (λ s. s)

-- the same of a region and a layout that are the chain's
pub known-ready : (R S : Region) (l m : Layout) (slots : Slots) (pieces : Pieces) → S ≡ R → m ≡ l → Accepted S → IsLayoutOf S m → ∥ AreSlots R l slots ∥₁ → ArePiecesOf R l pieces
    → IsReady S m slots pieces
known-ready R S l m slots pieces same one accepted layout slots_of pieces_of = record {
  is_accepted = accepted;
  of_region = layout;
  are_slots = subst (λ (Q : Region). AreSlots Q m slots) (sym same) (subst (λ (k : Layout). AreSlots R k slots) (sym one) (known-slots R l slots slots_of));
  are_pieces = subst (λ (Q : Region). ArePiecesOf Q m pieces) (sym same) (subst (λ (k : Layout). ArePiecesOf R k pieces) (sym one) pieces_of);
}

pub known-lows : (R S : Region) (l m : Layout) (slots : Slots) → S ≡ R → m ≡ l → ∥ AreSlots R l slots ∥₁ → AreLows S m slots.lows
known-lows R S l m slots same one known =
    subst (λ (Q : Region). AreLows Q m slots.lows) (sym same) (subst (λ (k : Layout). AreLows R k slots.lows) (sym one) (known-slots R l slots known).lows)

HoldEnds-prop : (R : Region) (l : Layout) (s : Strings) (low high : List ℤ) → IsProp (HoldEnds R l s low high)
HoldEnds-prop R l s low high = hlevel (ℕ_set, AreLawful-prop, T_prop, Bool-set)

-- that the pieces are those of the region is only known to hold
pub known-held : (R S : Region) (l m : Layout) (slots : Slots) (pieces : Pieces) (s : Strings) (low high : List ℤ) → S ≡ R → m ≡ l → Accepted S → IsLayoutOf S m
    → ∥ AreSlots R l slots ∥₁ → ∥ ArePiecesOf R l pieces ∥₁ → (IsReady S m slots pieces → HoldEnds S m s low high) → HoldEnds S m s low high
known-held R S l m slots pieces s low high same one accepted layout slots_of pieces_of holds =
    ∥∥₁_elim pieces_of (HoldEnds-prop S m s low high) (λ are. holds (known-ready R S l m slots pieces same one accepted layout slots_of are))

-- the strings after the times of a start, where the layout was asked of the low tiling
pub held-after : (R S : Region) (l m n : Layout) (slots : Slots) (pieces : Pieces) (joined both : Strings) (low high : List ℤ) (carries : Region → List ℤ → List ℤ)
    → S ≡ R → m ≡ l → n ≡ m → Accepted S → IsLayoutOf S m → ∥ AreSlots R l slots ∥₁ → ∥ ArePiecesOf R l pieces ∥₁
    → ((Q : Region) → IsReady Q n slots pieces → (a b : List ℤ) → HoldEnds Q n joined a b → HoldEnds Q n both (carries Q a) (carries Q b))
    → HoldEnds S m joined low high → HoldEnds S m both (carries S low) (carries S high)
held-after R S l m n slots pieces joined both low high carries same one told accepted layout slots_of pieces_of carried holds =
    known-held R S l m slots pieces both (carries S low) (carries S high) same one accepted layout slots_of pieces_of
    (λ ready. subst (λ (k : Layout). IsReady S k slots pieces → HoldEnds S k both (carries S low) (carries S high)) told
    (λ r. carried S r low high (subst (λ (k : Layout). HoldEnds S k joined low high) (sym told) holds)) ready)
