-- Steps at every sixth place of a row, one after the other.
use Rattle.std.proofs.Common.{◌≡◌, ℕ, ◌+◌, ◌/◌, ◌%◌, ◌<◌, ◌≤◌, ◌⊎◌, inl, inr, List, length, set, refl, sym, ◌∙◌, ap, subst, arith, ℤ, pos}
use Rattle.std.specs.Prelude.{◌==◌}
use Rattle.std.proofs.lemmas.Bool.{cases_lt, cases_order, cond-true, cond-false, eq-eqb, eqb-true, false_from_ne_true}
use Rattle.std.proofs.lemmas.List.{get_or-set_same, get_or-set_other, length-set}
use Rattle.tl_sweep.specs.Places.{at, every_sixth, is_bit, triangle_stepped}

module _ (numbers : List ℤ) (width start first bits t : ℕ) (out : List ℤ) (z : ℤ) (small : first < 6) (sixth : t % 6 ≡ first) (within : t < length out) where
  pub sixths-done : z ≡ triangle_stepped numbers width (start + t) (is_bit bits (t / 2))
      → ((s : ℕ) → s < length out → s < t → at out s ≡ every_sixth numbers width start first bits s)
      → ((s : ℕ) → s < length out → t ≤ s → at out s ≡ at numbers (start + s))
      → (s : ℕ) → s < length (set out t z) → s < t + 6 → at (set out t z) s ≡ every_sixth numbers width start first bits s
  sixths-done is done left s h k = go (cases_order s t)
    where
      room : s < length out
      room = omega (arith, h, length-set out t z)

      go : (s ≡ t) ⊎ ((s < t) ⊎ (t < s)) → at (set out t z) s ≡ every_sixth numbers width start first bits s
      go (inl e) =
          subst (λ (n : ℕ). at (set out t z) n ≡ every_sixth numbers width start first bits n) (sym e)
          (get_or-set_same out t z (pos 0) within ∙ is
          ∙ sym (cond-true (t % 6 == first) (triangle_stepped numbers width (start + t) (is_bit bits (t / 2))) (at numbers (start + t)) (eq-eqb (t % 6) first sixth)))
      go (inr (inl l)) = get_or-set_other out t s z (pos 0) (λ e. omega (arith, e, l)) ∙ done s room l
      go (inr (inr l)) =
          get_or-set_other out t s z (pos 0) (λ e. omega (arith, e, l)) ∙ left s room (omega (arith, l))
          ∙ sym (cond-false (s % 6 == first) (triangle_stepped numbers width (start + s) (is_bit bits (s / 2))) (at numbers (start + s))
          (false_from_ne_true (s % 6 == first) (λ b. let e = eqb-true (s % 6) first b in omega (arith, e, sixth, l, k))))

  pub sixths-left : ((s : ℕ) → s < length out → t ≤ s → at out s ≡ at numbers (start + s))
      → (s : ℕ) → s < length (set out t z) → t + 6 ≤ s → at (set out t z) s ≡ at numbers (start + s)
  sixths-left left s h k =
      get_or-set_other out t s z (pos 0) (λ e. omega (arith, e, k)) ∙ left s (omega (arith, h, length-set out t z)) (omega (arith, k))
