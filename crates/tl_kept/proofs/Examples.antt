-- What meets the definitions, and what near them doesn't: the words 5 and 6 of the time -1, and 7 and 8 of the time -2.
use Rattle.std.proofs.Common.{◌≡◌, ℕ, zero, suc, ◌+◌, ◌-◌, ◌*◌, ◌<◌, ◌≤◌, List, [], ◌∷◌, refl, arith}
use Rattle.std.specs.Prelude.{slice_index}
use Rattle.tl_bits.specs.Sources.{listed_word}
use Rattle.tl_kept.specs.Kept.{AreKept, HasTime}

abbrev word_at : ℕ → ℕ → ℕ
word_at = listed_word (record { words = 2; list = 5 ∷ 6 ∷ 7 ∷ 8 ∷ [] })

abbrev zeros : List ℕ
zeros = 0 ∷ 0 ∷ 0 ∷ 0 ∷ []

abbrev two_times : List ℕ
two_times = 0 ∷ 0 ∷ 0 ∷ 0 ∷ 5 ∷ 6 ∷ 7 ∷ 8 ∷ zeros

-- a fact of each word of the two times
each-word : (P : ℕ → ℕ → Type 0) → P 1 0 → P 1 1 → P 2 0 → P 2 1 → (t w : ℕ) → 1 ≤ t → t ≤ 2 → w < 2 → P t w
each-word P a b c d zero w first last within = absurd (omega arith)
each-word P a b c d (suc zero) zero first last within = a
each-word P a b c d (suc zero) (suc zero) first last within = b
each-word P a b c d (suc zero) (suc (suc w)) first last within = absurd (omega arith)
each-word P a b c d (suc (suc zero)) zero first last within = c
each-word P a b c d (suc (suc zero)) (suc zero) first last within = d
each-word P a b c d (suc (suc zero)) (suc (suc w)) first last within = absurd (omega arith)
each-word P a b c d (suc (suc (suc t))) w first last within = absurd (omega arith)

two-kept : AreKept 2 2 word_at two_times
two-kept = record {
  size = refl;
  each = each-word (λ t w. slice_index two_times (4 + (t - 1) * 2 + w) ≡ word_at t w) refl refl refl refl;
}

-- the words of the time before are not those of a time
one_late : AreKept 2 2 word_at (0 ∷ 0 ∷ 0 ∷ 0 ∷ 5 ∷ 6 ∷ 5 ∷ 6 ∷ zeros) → ⊥
one_late kept = omega (arith, kept.each 2 0 (omega arith) (omega arith) (omega arith))

-- a time begins behind four words
without_first : HasTime 2 (word_at 1) (5 ∷ 6 ∷ zeros) → ⊥
without_first has = omega (arith, has 0 (omega arith))
