-- Chains that mean the same.
use Rattle.std.proofs.Common.{ℕ, refl, sym, ◌∙◌}
use Rattle.tl_chain.specs.Chain.{ChainMeaning, SameMeaning, ChainGathers}

pub SameMeaning-refl : {S : Type 0} (M : ChainMeaning S) → SameMeaning M M
SameMeaning-refl M = record {
  belongs = λ s. (λ b. b, λ b. b);
  lawful = λ s. (λ b. b, λ b. b);
  below = λ s t. (λ b. b, λ b. b);
  low = refl;
  high = refl;
  carried = λ s from. refl;
}

pub SameMeaning-sym : {S : Type 0} (M N : ChainMeaning S) → SameMeaning M N → SameMeaning N M
SameMeaning-sym M N p = record {
  belongs = λ s. ((p.belongs s).1, (p.belongs s).0);
  lawful = λ s. ((p.lawful s).1, (p.lawful s).0);
  below = λ s t. ((p.below s t).1, (p.below s t).0);
  low = sym p.low;
  high = sym p.high;
  carried = λ s from. sym (p.carried s from);
}

pub SameMeaning-trans : {S : Type 0} (L M N : ChainMeaning S) → SameMeaning L M → SameMeaning M N → SameMeaning L N
SameMeaning-trans L M N p q = record {
  belongs = λ s. (λ b. (q.belongs s).0 ((p.belongs s).0 b), λ b. (p.belongs s).1 ((q.belongs s).1 b));
  lawful = λ s. (λ b. (q.lawful s).0 ((p.lawful s).0 b), λ b. (p.lawful s).1 ((q.lawful s).1 b));
  below = λ s t. (λ b. (q.below s t).0 ((p.below s t).0 b), λ b. (p.below s t).1 ((q.below s t).1 b));
  low = p.low ∙ q.low;
  high = p.high ∙ q.high;
  carried = λ s from. p.carried s from ∙ q.carried s from;
}

-- the same starts gather
pub ChainGathers-same : {S : Type 0} (M N : ChainMeaning S) (from : ℕ) → SameMeaning M N → ChainGathers N from → ChainGathers M from
ChainGathers-same M N from p all s t h k =
    p.carried s from ∙ all s t ((p.lawful s).0 h) ((p.lawful t).0 k) ∙ sym (p.carried t from)
