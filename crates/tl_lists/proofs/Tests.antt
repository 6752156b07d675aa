-- Tests and numbers: when two are the same.
use Rattle.std.proofs.Common.{◌≡◌, Some, ◌≢◌, ℕ, ◌⊎◌, inl, inr, true, false, eqb, Bool, refl, sym}
use Rattle.std.proofs.lemmas.Bool.Decides.{eqb_tells}

pub some_same : {A : Type 0} (x y : A) → Some x ≡ Some y → x ≡ y
some_same x y e = cc e

pub nat_cases : (x y : ℕ) → (x ≡ y) ⊎ (¬ (x ≡ y))
nat_cases x y = go (eqb_tells x y)
  where
    go : ((eqb x y ≡ true) × (x ≡ y)) ⊎ ((eqb x y ≡ false) × (x ≢ y)) → (x ≡ y) ⊎ (¬ (x ≡ y))
    go (inl p) = inl p.1
    go (inr p) = inr p.1

-- two tests that pass in the same cases are the same
pub same_test : (a b : Bool) → (a ≡ true → b ≡ true) → (b ≡ true → a ≡ true) → a ≡ b
same_test true b f g = sym (f refl)
same_test false true f g = g refl
same_test false false f g = refl
