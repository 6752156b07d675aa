-- The bits of the words that were read for a time, and one more sweep.
use Rattle.std.proofs.Common.{◌≡◌, ℕ, zero, suc, ◌+◌, ◌-◌, ◌/◌, ◌%◌, ◌^◌, ◌<◌, Bool, List, length, ◌∙◌, ap, subst, arith, ℤ}
use Rattle.std.specs.Prelude.{◌==◌, slice_index}
use Rattle.tl_definitions.specs.Region.{Region}
use Rattle.tl_bits.specs.Bits.{bit_at, words_for}
use Rattle.tl_sweep.specs.Sweeps.{bit_in}
use Rattle.tl_coupling.specs.Carried.{AgreeWithin, carried_numbers, swept}

-- the words of a time have its bits, one for each inner corner
pub read-bits : (n : ℕ) (words : List ℕ) (word_at : ℕ → ℕ → ℕ) (t : ℕ) → length words ≡ words_for n
    → ((w : ℕ) → w < length words → slice_index words w ≡ word_at t w) → AgreeWithin n (bit_in words) (bit_at word_at t)
read-bits n words word_at t size read i within =
    let inside : i / 32 < length words = omega (arith, size, within) in
    ap (λ (m : ℕ). m / 2 ^ (i % 32) % 2 == 1) (read (i / 32) inside)

-- the same words, and the same function
pub read-now : (words others : List ℕ) (first second : ℕ → ℕ → ℕ) (t : ℕ) → words ≡ others → first ≡ second
    → ((w : ℕ) → w < length others → slice_index others w ≡ first t w) → (w : ℕ) → w < length words → slice_index words w ≡ second t w
read-now words others first second t same one read w within =
    ap (λ (words : List ℕ). slice_index words w) same ∙ read w (subst (λ (words : List ℕ). w < length words) same within)
    ∙ ap (λ (f : ℕ → ℕ → ℕ). f t w) one

-- one sweep more, and what is left takes the heights to where it did before
pub carried-step : (R S : Region) (bits : ℕ → ℕ → Bool) (time : ℕ) (here next end : List ℤ) → S ≡ R → 0 < time
    → next ≡ swept S (bits (time - 1 + 1)) here → carried_numbers R bits time here ≡ end → carried_numbers R bits (time - 1) next ≡ end
carried-step R S bits zero here next end same some e left = absurd (omega (arith, some))
carried-step R S bits (suc t) here next end same some e left =
    let before : suc t - 1 ≡ t = omega arith in
    let now : suc t - 1 + 1 ≡ suc t = omega arith in
    rw before (ap (carried_numbers R bits t) (e ∙ ap (λ (n : ℕ). swept S (bits n) here) now ∙ ap (λ (Q : Region). swept Q (bits (suc t)) here) same) ∙ left)
