-- The least power of two.
use Rattle.std.proofs.Common.{ℕ, ◌^◌, ◌≤◌, ◌<◌, refl, subst, arith, below_more}
use Rattle.tl_lists.specs.Powers.{IsLeastPower, NoPower}
use Rattle.tl_chain.specs.Chain.{ChainMeaning, SameMeaning, ChainGathers}

-- where there is a least power, some power has the property
pub NoPower-least : (P : ℕ → Type 0) (bound T : ℕ) → IsLeastPower P bound T → NoPower P bound → ⊥
NoPower-least P bound T s none = none s.exponent s.within (subst P s.power s.holds)

-- the first power that has it is the least
pub IsLeastPower-first : (P : ℕ → Type 0) (bound exponent : ℕ) → exponent ≤ bound
    → ((k : ℕ) → k < exponent → ¬ P (2 ^ k)) → P (2 ^ exponent) → IsLeastPower P bound (2 ^ exponent)
IsLeastPower-first P bound exponent within none holds = record {
  exponent = exponent;
  power = refl;
  within = within;
  holds = holds;
  least = none;
}

-- where none below an exponent and not its own has it, and the bound is no higher, none has it
pub NoPower-last : (P : ℕ → Type 0) (bound exponent : ℕ) → bound ≤ exponent
    → ((k : ℕ) → k < exponent → ¬ P (2 ^ k)) → ¬ P (2 ^ exponent) → NoPower P bound
NoPower-last P bound exponent last none here k h =
    below_more (λ j. ¬ P (2 ^ j)) exponent none here k (omega (arith, h, last))

-- What the search has come to at an exponent: `M` is the meaning of the chain as it was lent, `N` as it is.
pub record Searched {S : Type 0} (M N : ChainMeaning S) (low high : S) (exponent : ℕ) : Type 0 where
  pub same_meaning : SameMeaning M N
  pub low_belongs : M.belongs low
  pub high_belongs : M.belongs high
  pub none : (k : ℕ) → k < exponent → ¬ ChainGathers M (2 ^ k)
