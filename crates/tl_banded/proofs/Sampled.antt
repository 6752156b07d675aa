-- What holds of a chain by the bits of a sample.
use Rattle.std.proofs.Common.{◌≡◌, ℕ, ◌^◌, ◌≤◌, Bool, false, IsTrue, refl, sym, ◌∙◌, ap, subst}
use Rattle.tl_lists.specs.Powers.{IsLeastPower, NoPower}
use Rattle.tl_lists.proofs.Powers.{same_power}
use Rattle.tl_bits.specs.Sources.{Numbering}
use Rattle.tl_chain.specs.Chain.{ChainGathers}
use Rattle.tl_chain.specs.declared.Drawn.TheVariants.{At, Late}
use Rattle.tl_chain.proofs.Search.{NoPower-least}
use Rattle.tl_packed.specs.PackedTiling.{PackedTiling}
use Rattle.tl_banded.specs.Banded.{sampled}

-- it holds of the chain with the same ends and the same bits
pub same-chain : (P : PackedTiling → PackedTiling → Numbering → Type 0) (bottom top low high : PackedTiling) (others bits : Numbering) → bottom ≡ low → top ≡ high → others ≡ bits
    → P bottom top others → P low high bits
same-chain P bottom top low high others bits p q r holds =
    subst (λ (t : PackedTiling). P t high bits) p (subst (λ (t : PackedTiling). P bottom t bits) q (subst (λ (b : Numbering). P bottom top b) r holds))

-- what the answer is where there is a start: this one and no other, and the draw isn't late
pub at-start : (P : ℕ → Type 0) (bound from start : ℕ) → from ≡ start → IsLeastPower P bound start
    → (T : ℕ) → (At from ≡ At T → IsLeastPower P bound T) × (IsLeastPower P bound T → At from ≡ At T)
at-start P bound from start is least T = (
  λ e. let same : start ≡ T = cc (e, is) in subst (IsLeastPower P bound) same least,
  λ other. ap At (is ∙ same_power P bound start T least other),
)

pub not-late : (P : ℕ → Type 0) (bound from start : ℕ) → IsLeastPower P bound start
    → (At from ≡ Late → NoPower P bound) × (NoPower P bound → At from ≡ Late)
not-late P bound from start least = (λ e. cc e, λ none. absurd (NoPower-least P bound start least none))

-- and where there is none
pub no-start : (P : ℕ → Type 0) (bound : ℕ) → NoPower P bound
    → (T : ℕ) → (Late ≡ At T → IsLeastPower P bound T) × (IsLeastPower P bound T → Late ≡ At T)
no-start P bound none T = (λ e. cc e, λ least. absurd (NoPower-least P bound T least none))

-- a start from which it was told not to gather is none
none-here : (P : ℕ → Type 0) (from start : ℕ) (answer : Bool) → from ≡ start → (P from → IsTrue answer) → answer ≡ false → ¬ P start
none-here P from start answer is tells apart all = let told = tells (subst P (sym is) all) in cc (told, apart)

-- the same of a chain with the same ends and the same bits
pub none-of : (bottom top low high : PackedTiling) (others bits : Numbering) → bottom ≡ low → top ≡ high → others ≡ bits → (from start : ℕ) (answer : Bool) → from ≡ start
    → (ChainGathers (sampled bottom top others) from → IsTrue answer) → answer ≡ false → ¬ ChainGathers (sampled low high bits) start
none-of bottom top low high others bits p q r from start answer is tells apart =
    none-here (ChainGathers (sampled low high bits)) from start answer is
    (same-chain (λ a b n. ChainGathers (sampled a b n) from → IsTrue answer) bottom top low high others bits p q r tells) apart
