-- Two ends instead of all lawful states.
use Rattle.std.proofs.Common.{◌≡◌, ℕ, ◌^◌, ◌≤◌, sym, ◌∙◌, subst}
use Rattle.tl_chain.specs.Chain.{ChainMeaning, IsLawfulChain, ChainGathers, AllCarriedTo}

-- From a start from which the two ends are carried to one state every lawful state is, since it is carried between them.
pub AllCarriedTo-ends : {S : Type 0} (M : ChainMeaning S) (from : ℕ) → IsLawfulChain M → 1 ≤ from → from ≤ 2 ^ 30
    → M.carried M.low from ≡ M.carried M.high from → AllCarriedTo M from (M.carried M.low from)
AllCarriedTo-ends M from laws lower upper e t lawful =
    let above = laws.monotone from M.low t lower upper laws.low_lawful lawful (laws.low_lowest t lawful) in
    let below = laws.monotone from t M.high lower upper lawful laws.high_lawful (laws.high_highest t lawful) in
    laws.antisymmetric (M.carried t from) (M.carried M.low from) (laws.stays from t lower upper lawful)
    (laws.stays from M.low lower upper laws.low_lawful)
    (subst (λ s. M.below (M.carried t from) s) (sym e) below) above

-- Two states are the two ends, carried from a start.
pub record AreEndsCarried {S : Type 0} (M : ChainMeaning S) (from : ℕ) (low high : S) : Type 0 where
  pub low_is : low ≡ M.carried M.low from
  pub high_is : high ≡ M.carried M.high from

-- where they are the same, all lawful states are carried to the one
pub AllCarriedTo-low : {S : Type 0} (M : ChainMeaning S) (from : ℕ) (low high : S) → IsLawfulChain M → 1 ≤ from → from ≤ 2 ^ 30
    → AreEndsCarried M from low high → low ≡ high → AllCarriedTo M from low
AllCarriedTo-low M from low high laws lower upper s e =
    subst (λ x. AllCarriedTo M from x) (sym s.low_is) (AllCarriedTo-ends M from laws lower upper (sym s.low_is ∙ e ∙ s.high_is))

pub AllCarriedTo-high : {S : Type 0} (M : ChainMeaning S) (from : ℕ) (low high : S) → IsLawfulChain M → 1 ≤ from → from ≤ 2 ^ 30
    → AreEndsCarried M from low high → low ≡ high → AllCarriedTo M from high
AllCarriedTo-high M from low high laws lower upper s e =
    subst (λ x. AllCarriedTo M from x) e (AllCarriedTo-low M from low high laws lower upper s e)

-- what all lawful states are carried to is one state
pub ChainGathers-one : {S : Type 0} (M : ChainMeaning S) (from : ℕ) (s : S) → AllCarriedTo M from s → ChainGathers M from
ChainGathers-one M from s all t u h k = all t h ∙ sym (all u k)

-- so a start gathers exactly where the two are the same
pub same-gathered : {S : Type 0} (M : ChainMeaning S) (from : ℕ) (low high : S) → IsLawfulChain M
    → AreEndsCarried M from low high → ChainGathers M from → low ≡ high
same-gathered M from low high laws s all =
    s.low_is ∙ all M.low M.high laws.low_lawful laws.high_lawful ∙ sym s.high_is
