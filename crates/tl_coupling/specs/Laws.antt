-- The chain of the tilings of a region is lawful, where its ends are those of the region.
use Rattle.std.proofs.Common.{◌≡◌, ℕ, Bool, List, ℤ, refl, sym, ◌∙◌}
use Rattle.std.specs.Coded.{Coded, Coded-set, codes}
use Rattle.std.proofs.Math.Dec.{T_prop}
use Rattle.tl_definitions.specs.Region.{Region}
use Rattle.tl_definitions.specs.Accepted.{Accepted}
use Rattle.tl_lawful.specs.Order.{AreGreatest, AreLeast, LieBelow}
use Rattle.tl_chain.specs.Chain.{IsLawfulChain}
use Rattle.tl_chain.specs.Premises.{IsLawfulChain-merely, IsLawfulChain-prop}
use Rattle.tl_height.specs.HeightFunction.{HeightFunction}
use Rattle.tl_height.specs.OneProof.{AreLawful-prop, HeightFunction-set}
use Rattle.tl_coupling.specs.Carried.{tilings}
use Rattle.tl_coupling.specs.SweptNumbers.{below-same, carried-below, carried-lawful}

pub same_function : (s t : HeightFunction) → s.region ≡ t.region → s.numbers ≡ t.numbers → s ≡ t
same_function s t p q = λ i. record { region = p i; numbers = q i }

IsLawfulChain-accepted : (low high : HeightFunction) (bits : ℕ → ℕ → Bool) → high.region ≡ low.region → AreLeast low.region low.numbers
    → AreGreatest low.region high.numbers → Accepted low.region → IsLawfulChain (tilings low high bits)
IsLawfulChain-accepted low high bits one_region least greatest accepted = record {
  stays = λ from s lower upper h. (h.0, carried-lawful low.region accepted bits from s.numbers h.1);
  monotone = λ from s t lower upper h k below. carried-below low.region accepted bits from s.numbers t.numbers h.1 k.1 below;
  antisymmetric = λ s t h k below above.
      same_function s t (h.0 ∙ sym k.0) (below-same low.region s.numbers t.numbers h.1.heights k.1.heights below above);
  low_lawful = (refl, least.0);
  high_lawful = (one_region, greatest.0);
  low_lowest = λ s h. least.1 s.numbers h.1;
  high_highest = λ s h. greatest.1 s.numbers h.1;
}

Region-set : IsSet Region
Region-set = let stored : Coded Region = hlevel codes in Coded-set stored

-- That the region is accepted is only known to hold.
pub IsLawfulChain-tilings : (low high : HeightFunction) (bits : ℕ → ℕ → Bool) → high.region ≡ low.region → AreLeast low.region low.numbers
    → AreGreatest low.region high.numbers → ∥ Accepted low.region ∥₁ → IsLawfulChain (tilings low high bits)
IsLawfulChain-tilings low high bits one_region least greatest known =
    let one = IsLawfulChain-prop (tilings low high bits) HeightFunction-set (λ s. hlevel (Region-set, AreLawful-prop)) (λ s t. hlevel T_prop) in
    IsLawfulChain-merely (tilings low high bits) one known (IsLawfulChain-accepted low high bits one_region least greatest)

-- ---- what the chain keeps has one proof at most

pub AreLeast-prop : (R : Region) (numbers : List ℤ) → IsProp (AreLeast R numbers)
AreLeast-prop R numbers = hlevel (AreLawful-prop, T_prop)

pub AreGreatest-prop : (R : Region) (numbers : List ℤ) → IsProp (AreGreatest R numbers)
AreGreatest-prop R numbers = hlevel (AreLawful-prop, T_prop)
