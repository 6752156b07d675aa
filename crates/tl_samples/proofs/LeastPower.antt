-- The least power of two with a property: where the property can be decided at each number, it is found or there is none.
use Rattle.std.proofs.Common.{◌≡◌, ℕ, zero, suc, ◌^◌, ◌<◌, ◌⊎◌, inl, inr, refl, sym, subst, arith, below_more}
use Rattle.tl_lists.specs.Powers.{IsLeastPower, NoPower}

-- the first power that has it is the least
first-least : (P : ℕ → Type 0) (bound : ℕ) → ((k : ℕ) → k < bound → ¬ P (2 ^ k)) → P (2 ^ bound) → IsLeastPower P bound (2 ^ bound)
first-least P bound before holds = record { exponent = bound; power = refl; within = omega arith; holds = holds; least = before }

-- under a greater bound it is still the least
wider-least : (P : ℕ → Type 0) (bound T : ℕ) → IsLeastPower P bound T → IsLeastPower P (suc bound) T
wider-least P bound T found =
    record { exponent = found.exponent; power = found.power; within = omega (arith, found.within); holds = found.holds; least = found.least }

pub least-or-none : (P : ℕ → Type 0) → ((n : ℕ) → P n ⊎ (¬ P n)) → (bound : ℕ) → ((T : ℕ) × IsLeastPower P bound T) ⊎ NoPower P bound
least-or-none P decide zero = go (decide 1)
  where
    go : P 1 ⊎ (¬ P 1) → ((T : ℕ) × IsLeastPower P 0 T) ⊎ NoPower P 0
    go (inl holds) = inl (1, first-least P 0 (λ k l. absurd (omega (arith, l))) holds)
    go (inr fails) = inr (λ k l. let none : k ≡ 0 = omega (arith, l) in subst (λ (j : ℕ). ¬ P (2 ^ j)) (sym none) fails)
least-or-none P decide (suc bound) = go (least-or-none P decide bound) (decide (2 ^ suc bound))
  where
    go : ((T : ℕ) × IsLeastPower P bound T) ⊎ NoPower P bound → P (2 ^ suc bound) ⊎ (¬ P (2 ^ suc bound)) → ((T : ℕ) × IsLeastPower P (suc bound) T) ⊎ NoPower P (suc bound)
    go (inl (T, found)) d = inl (T, wider-least P bound T found)
    go (inr none) (inl holds) = inl (2 ^ suc bound, first-least P (suc bound) (λ k l. none k (omega (arith, l))) holds)
    go (inr none) (inr fails) =
        inr (λ k l. below_more (λ j. ¬ P (2 ^ j)) (suc bound) (λ j m. none j (omega (arith, m))) fails k (omega (arith, l)))

-- the two exclude each other
pub least-not_none : (P : ℕ → Type 0) (bound T : ℕ) → IsLeastPower P bound T → NoPower P bound → ⊥
least-not_none P bound T found none = none found.exponent found.within (subst P found.power found.holds)
