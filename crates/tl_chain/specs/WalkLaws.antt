-- The walk is a lawful chain.
use Rattle.std.proofs.Common.{◌≡◌, ℕ, zero, suc, ◌≤◌, Bool, true, false, List, arith}
use Rattle.std.proofs.lemmas.Bool.Decides.{nat_tests}
use Rattle.tl_chain.specs.Chain.{IsLawfulChain}
use Rattle.tl_chain.specs.Walk.{stepped, goes_up, walked, walk}

stepped-le : (top : ℕ) (up : Bool) (s : ℕ) → s ≤ top → stepped top up s ≤ top
stepped-le top true s h = grind (arith, nat_tests)
stepped-le top false s h = omega arith

stepped-mono : (top : ℕ) (up : Bool) (s t : ℕ) → s ≤ t → t ≤ top → stepped top up s ≤ stepped top up t
stepped-mono top true s t h k = grind (arith, nat_tests)
stepped-mono top false s t h k = omega arith

walked-le : (top : ℕ) (ups : List Bool) (from s : ℕ) → s ≤ top → walked top ups from s ≤ top
walked-le top ups zero s h = h
walked-le top ups (suc t) s h = walked-le top ups t _ (stepped-le top (goes_up ups t) s h)

walked-mono : (top : ℕ) (ups : List Bool) (from s t : ℕ) → s ≤ t → t ≤ top → walked top ups from s ≤ walked top ups from t
walked-mono top ups zero s t h k = h
walked-mono top ups (suc n) s t h k =
    walked-mono top ups n _ _ (stepped-mono top (goes_up ups n) s t h k) (stepped-le top (goes_up ups n) t k)

both-le : (s t : ℕ) → s ≤ t → t ≤ s → s ≡ t
both-le s t h k = omega arith

pub IsLawfulChain-walk : (top : ℕ) (ups : List Bool) → IsLawfulChain (walk top ups)
IsLawfulChain-walk top ups = record {
  stays = λ from s lower upper h. walked-le top ups from s h;
  monotone = λ from s t lower upper h k below. walked-mono top ups from s t below k;
  antisymmetric = λ s t h k below above. both-le s t below above;
  low_lawful = omega arith;
  high_lawful = omega arith;
  low_lowest = λ s h. omega arith;
  high_highest = λ s h. h;
}
