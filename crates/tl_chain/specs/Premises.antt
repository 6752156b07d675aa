-- Chains that are lawful under a premise. What is only known to hold, as ∥ P ∥₁, may be used where the conclusion has one
-- proof at most.
use Rattle.std.proofs.Math.Logic.{∥∥₁_elim}
use Rattle.tl_chain.specs.Chain.{ChainMeaning, IsLawfulChain}

-- Being a lawful chain has one proof at most where the states are a set, and being lawful and lying below have one at most.
pub IsLawfulChain-prop : {S : Type 0} (M : ChainMeaning S) → IsSet S → ((s : S) → IsProp (M.lawful s))
    → ((s t : S) → IsProp (M.below s t)) → IsProp (IsLawfulChain M)
IsLawfulChain-prop M states lawful below = hlevel (states, lawful, below)

-- A chain that a premise makes lawful is lawful where the premise is only known to hold.
pub IsLawfulChain-merely : {S P : Type 0} (M : ChainMeaning S) → IsProp (IsLawfulChain M) → ∥ P ∥₁ → (P → IsLawfulChain M)
    → IsLawfulChain M
IsLawfulChain-merely M one known laws = ∥∥₁_elim known one laws
