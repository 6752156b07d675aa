-- Words of a line, and numbers of few digits.
use Rattle.std.proofs.Common.{◌≡◌, ℕ, suc, ◌+◌, ◌-◌, ◌^◌, ◌<◌, ◌≤◌, false, List, [], ◌∷◌, ◌++◌, length, take, drop, get_or, Some, None, refl, sym, ◌∙◌, ap, arith}
use Rattle.std.specs.Prelude.{◌==◌}
use Rattle.std.specs.List.{All}
use Rattle.std.proofs.Math.Nat.{pow-le-pow_right}
use Rattle.std.proofs.Math.Seq.{drop-cons}
use Rattle.std.proofs.lemmas.Bool.{eqb-true, false_from_ne_true}
use Rattle.std.proofs.lemmas.List.{take_all, take-append-drop, get_or-take, length-take-le, length-drop}
use Rattle.std.proofs.lemmas.List.Elements.{All-from_get_or}
use Rattle.std.proofs.lemmas.List.Splits.{slice_split_at, slice_split_none, length-slice_split}
use Rattle.memchr.specs.Find.{IsFirstByte, is_byte}
use Rattle.tl_formats.specs.ObstructionText.{words_of, corner_of_words, head_of_words}

-- at a space
pub words-cut : (s : List ℕ) (k : ℕ) → IsFirstByte (is_byte 32) s (Some k) → words_of s ≡ take k s ∷ words_of (take (length s - (k + 1)) (drop (k + 1) s))
words-cut s k found =
    let space : get_or s k 0 ≡ 32 = eqb-true _ _ found.1 in
    let rest : take (length s - (k + 1)) (drop (k + 1) s) ≡ drop (k + 1) s = take_all (length s - (k + 1)) (drop (k + 1) s) (omega (arith, length-drop (k + 1) s)) in
    let next : suc k ≡ k + 1 = omega arith in
    let here : drop k s ≡ 32 ∷ drop (k + 1) s = drop-cons s k 0 found.0.high ∙ (λ i. space i ∷ drop (next i) s) in
    ap words_of (sym (take-append-drop k s) ∙ ap (λ (t : List ℕ). take k s ++ t) here)
    ∙ slice_split_at (λ b. b == 32) (take k s) 32 (drop (k + 1) s) before refl
    ∙ ap (λ (t : List ℕ). take k s ∷ words_of t) (sym rest)
  where
    before : All (λ b. (b == 32) ≡ false) (take k s)
    before = All-from_get_or (λ b. (b == 32) ≡ false) (take k s) 0 (λ i h.
        let inside : i < k = omega (arith, h, length-take-le k s (omega (arith, found.0.high))) in
        false_from_ne_true _ (λ e. found.0.before i (omega arith) inside (ap (λ (b : ℕ). b == 32) (sym (get_or-take k s i 0 inside)) ∙ e)))

-- without one
pub words-whole : (s : List ℕ) → IsFirstByte (is_byte 32) s None → words_of s ≡ s ∷ []
words-whole s none = slice_split_none (λ b. b == 32) s (All-from_get_or (λ b. (b == 32) ≡ false) s 0 (λ i h. false_from_ne_true _ (λ e. none i (omega arith) h e)))

-- a number of less than 9 digits
pub few-digits : (n i : ℕ) → i < 9 → n < 10 ^ i → n < 100000000
few-digits n i h small = let bound : 10 ^ i ≤ 10 ^ 8 = pow-le-pow_right {n = 10} (omega arith) {i = i} {j = 8} (omega (arith, h)) in omega (arith, small, bound)

-- there is a word in any text, so these have a word too many
corner-more : (r x : List ℕ) (ws : List (List ℕ)) → 0 < length ws → None ≡ corner_of_words (r ∷ x ∷ ws)
corner-more r x [] h = absurd (omega (arith, h))
corner-more r x (w ∷ ws) h = refl

head-more : (a b s n : List ℕ) (ws : List (List ℕ)) → 0 < length ws → None ≡ head_of_words (a ∷ b ∷ s ∷ n ∷ ws)
head-more a b s n [] h = absurd (omega (arith, h))
head-more a b s n (w ∷ ws) h = refl

some-words : (t : List ℕ) → 0 < length (words_of t)
some-words t = omega (arith, length-slice_split (λ b. b == 32) t)

pub corner-too_long : (r x t : List ℕ) → None ≡ corner_of_words (r ∷ x ∷ words_of t)
corner-too_long r x t = corner-more r x (words_of t) (some-words t)

pub head-too_long : (a b s n t : List ℕ) → None ≡ head_of_words (a ∷ b ∷ s ∷ n ∷ words_of t)
head-too_long a b s n t = head-more a b s n (words_of t) (some-words t)
