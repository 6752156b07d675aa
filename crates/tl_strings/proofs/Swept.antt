-- A list whose places are written one after the other, or pair by pair.
use Rattle.std.proofs.Common.{◌≡◌, ℕ, ◌+◌, ◌-◌, ◌<◌, ◌≤◌, ◌⊎◌, inl, inr, List, length, get_or, set, refl, sym, subst, ◌∙◌, arith}
use Rattle.std.proofs.lemmas.Bool.{cases_lt}
use Rattle.std.proofs.lemmas.List.{get_or-set_other, get_or-set_same}
use Rattle.tl_strings.specs.Pairs.{IsPairStored}
use Rattle.tl_strings.specs.Swept.{IsSwept}

pub swept-none : (Made : ℕ → ℕ → Type 0) (first : ℕ) (old : List ℕ) → IsSwept Made first first old old
swept-none Made first old = record {
  made = λ k from below. absurd (omega arith);
  below = λ k h. refl;
  rest = λ k h. refl;
}

pub swept-next : (Made : ℕ → ℕ → Type 0) (first at word : ℕ) (old new : List ℕ) → first ≤ at → at < length new → IsSwept Made first at old new → Made at word
    → IsSwept Made first (at + 1) old (set new at word)
swept-next Made first at word old new from within so_far one = record {
  made = λ k above below. place k above (cases_lt k at) below;
  below = λ k h. get_or-set_other new at k word 0 (λ same. omega (arith, same)) ∙ so_far.below k h;
  rest = λ k h. get_or-set_other new at k word 0 (λ same. omega (arith, same)) ∙ so_far.rest k (omega arith);
}
  where
    place : (k : ℕ) → first ≤ k → (k < at) ⊎ (at ≤ k) → k < at + 1 → Made k (get_or (set new at word) k 0)
    place k above (inl earlier) h = subst (Made k) (sym (get_or-set_other new at k word 0 (λ same. omega (arith, same)))) (so_far.made k above earlier)
    place k above (inr later) h =
        let here : at ≡ k = omega (arith, later, h) in
        subst (λ (j : ℕ). Made j (get_or (set new at word) j 0)) here (subst (Made at) (sym (get_or-set_same new at word 0 within)) one)

-- two places more
pub swept-pair : (Made : ℕ → ℕ → Type 0) (first at : ℕ) (pair old new newer : List ℕ) → first ≤ at → IsSwept Made first at old new → IsPairStored at pair new newer
    → ((lane : ℕ) → lane < 2 → Made (at + lane) (get_or pair lane 0)) → IsSwept Made first (at + 2) old newer
swept-pair Made first at pair old new newer from so_far stored two = record {
  made = λ k above below. place k above (cases_lt k at) below;
  below = λ k h. stored.below k (omega arith) ∙ so_far.below k h;
  rest = λ k h. stored.rest k h ∙ so_far.rest k (omega arith);
}
  where
    place : (k : ℕ) → first ≤ k → (k < at) ⊎ (at ≤ k) → k < at + 2 → Made k (get_or newer k 0)
    place k above (inl earlier) h = subst (Made k) (sym (stored.below k earlier)) (so_far.made k above earlier)
    place k above (inr later) h =
        let lane = k - at in
        let here : at + lane ≡ k = omega (arith, later) in
        subst (λ (j : ℕ). Made j (get_or newer j 0)) here (subst (Made (at + lane)) (sym (stored.lanes lane (omega (arith, later, h)))) (two lane (omega (arith, later, h))))

-- where the last place is the end
pub swept-all : (Made : ℕ → ℕ → Type 0) (first at end : ℕ) (old new : List ℕ) → at ≡ end → IsSwept Made first at old new → IsSwept Made first end old new
swept-all Made first at end old new e swept = subst (λ (n : ℕ). IsSwept Made first n old new) e swept
