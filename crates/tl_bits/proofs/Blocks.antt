-- The words that a generator gives one after another.
use Rattle.std.proofs.Common.{◌≡◌, ℕ, zero, suc, ◌+◌, ◌^◌, ◌<◌, List, [], ◌∷◌, get_or, ap, refl, ◌∙◌, arith}
use Rattle.rand_core.specs.Steps.{first_words}
use Rattle.rand_chacha.specs.ChaCha.{ChaCha, word_at, next_word}
use Rattle.tl_bits.specs.Ring.{IsBlock}

pub no_more : {S : Type 0} (step : S → ℕ × S) (s : S) → [] ≡ first_words step zero s
unfolding first_words
no_more step s = refl

-- one word, and then others
pub one_more : {S : Type 0} (step : S → ℕ × S) (k : ℕ) (s s' : S) (word : ℕ) (rest : List ℕ) → (word, s') ≡ step s → rest ≡ first_words step k s'
    → word ∷ rest ≡ first_words step (suc k) s
unfolding first_words
one_more step k s s' word rest is others = rw (← is, others)

-- word i of them has the generator's place, and i
pub get_or-first_words : (g : ChaCha) (count i : ℕ) → i < count → g.word_pos + count < 2 ^ 68
    → get_or (first_words (next_word 10) count g) i 0 ≡ word_at 10 g.key g.stream (g.word_pos + i)
unfolding first_words
get_or-first_words g zero i below fits = omega arith
get_or-first_words g (suc count) zero below fits = ap (word_at 10 g.key g.stream) (omega arith)
get_or-first_words g (suc count) (suc i) below fits =
    let after : ChaCha = (next_word 10 g).1 in
    let place : after.word_pos ≡ g.word_pos + 1 = omega arith in
    get_or-first_words after count i (omega arith) (omega arith) ∙ ap (word_at 10 g.key g.stream) (omega arith)

pub block_of-first_words : (g : ChaCha) (words : List ℕ) → words ≡ first_words (next_word 10) 16 g → g.word_pos + 16 < 2 ^ 68 → IsBlock g words
block_of-first_words g words are fits = record { words_are = λ i below. rw are (get_or-first_words g 16 i below fits) }
