-- Monotone chains, and the draw of coupling from the past.
use Rattle.std.specs.Prelude.{◌≡◌, ℕ, ◌^◌, ◌≤◌, ◌↔◌}
use Rattle.tl_lists.specs.Powers.{IsLeastPower, NoPower}

-- What a chain with states S means. Its states are carried from a start, so many times before time 0, to time 0.
pub record ChainMeaning (S : Type 0) : Type 1 where
  -- which states belong to it, and which of these are lawful
  pub belongs : S → Type 0
  pub lawful : S → Type 0
  -- the first lies below the second
  pub below : S → S → Type 0
  -- the two ends
  pub low : S
  pub high : S
  -- the state to which a state is carried from a start
  pub carried : S → ℕ → S

-- What makes a chain lawful: for each start from 1 to 2 ^ 30 it carries lawful states to lawful states
-- and keeps what is below what; two lawful states that are below each other are the same; and the two
-- ends are lawful, with every lawful state between them.
pub record IsLawfulChain {S : Type 0} (M : ChainMeaning S) : Type 0 where
  pub stays : (from : ℕ) (s : S) → 1 ≤ from → from ≤ 2 ^ 30 → M.lawful s → M.lawful (M.carried s from)
  pub monotone : (from : ℕ) (s t : S) → 1 ≤ from → from ≤ 2 ^ 30 → M.lawful s → M.lawful t → M.below s t → M.below (M.carried s from) (M.carried t from)
  pub antisymmetric : (s t : S) → M.lawful s → M.lawful t → M.below s t → M.below t s → s ≡ t
  pub low_lawful : M.lawful M.low
  pub high_lawful : M.lawful M.high
  pub low_lowest : (s : S) → M.lawful s → M.below M.low s
  pub high_highest : (s : S) → M.lawful s → M.below s M.high

-- Each meaning of the one chain is that of the other.
pub record SameMeaning {S : Type 0} (M N : ChainMeaning S) : Type 0 where
  pub belongs : (s : S) → M.belongs s ↔ N.belongs s
  pub lawful : (s : S) → M.lawful s ↔ N.lawful s
  pub below : (s t : S) → M.below s t ↔ N.below s t
  pub low : M.low ≡ N.low
  pub high : M.high ≡ N.high
  pub carried : (s : S) (from : ℕ) → M.carried s from ≡ N.carried s from

-- A start gathers where all lawful states are carried from it to one.
abbrev pub ChainGathers : {S : Type 0} → ChainMeaning S → ℕ → Type 0
ChainGathers {S} M from = (s t : S) → M.lawful s → M.lawful t → M.carried s from ≡ M.carried t from

-- The start of a draw is the least of 1, 2, 4, .., 2 ^ bound that gathers.
abbrev pub IsChainStart : {S : Type 0} → ChainMeaning S → ℕ → ℕ → Type 0
IsChainStart M bound T = IsLeastPower (ChainGathers M) bound T

-- A draw is late where none of them gathers.
abbrev pub IsChainLate : {S : Type 0} → ChainMeaning S → ℕ → Type 0
IsChainLate M bound = NoPower (ChainGathers M) bound

-- Every lawful state is carried from a start to this one.
abbrev pub AllCarriedTo : {S : Type 0} → ChainMeaning S → ℕ → S → Type 0
AllCarriedTo {S} M from s = (t : S) → M.lawful t → M.carried t from ≡ s
