-- Slots beside a slot: in its own word, or in the word of the strip beside it.
use Rattle.std.proofs.Common.{◌≡◌, ℕ, zero, suc, ◌+◌, ◌-◌, ◌*◌, ◌/◌, ◌%◌, ◌<◌, ◌≤◌, ◌==◌, ◌⊎◌, inl, inr, ◌&&◌, ◌||◌, List, get_or, refl, sym, ap, ◌∙◌, arith}
use Rattle.std.specs.Prelude.{bit_and}
use Rattle.std.proofs.lemmas.Bool.{cases_eq, cond-true, cond-false, eq-eqb, ne_eqb}
use Rattle.tl_strings.specs.Pairs.{IsPairAt}
use Rattle.tl_strings.specs.Steps.{coin_bit}
use Rattle.tl_strings.specs.Strings.{string_bit, word_place}
use Rattle.tl_strings.specs.Words.{bit, bit_before, bit_behind}
use Rattle.tl_strings.proofs.Bits.{bit-and, bit_before-and}

-- one strip back
strip-back : (strip other height row at : ℕ) → strip ≡ other + 1 → strip * height + row ≡ at → at - height ≡ other * height + row
strip-back strip other height row at e is = let product : strip * height ≡ (other + 1) * height = ap (λ (m : ℕ). m * height) e in omega arith

strip-on : (strip other height row at : ℕ) → other ≡ strip + 1 → strip * height + row ≡ at → at + height ≡ other * height + row
strip-on strip other height row at e is = let product : other * height ≡ (strip + 1) * height = ap (λ (m : ℕ). m * height) e in omega arith

same-strip : (strip other height row at : ℕ) → strip ≡ other → strip * height + row ≡ at → at ≡ other * height + row
same-strip strip other height row at e is = let product : strip * height ≡ other * height = ap (λ (m : ℕ). m * height) e in omega arith

pub string-at : (words : List ℕ) (height row slot at : ℕ) → word_place height row slot ≡ at → bit (get_or words at 0) (slot % 64) ≡ string_bit height words row slot
string-at words height row slot at e = ap (λ (k : ℕ). bit (get_or words k 0) (slot % 64)) (sym e)

-- the bit of a slot, by a pair that has its word
pub loaded-at : (words pair : List ℕ) (height row slot at lane : ℕ) → IsPairAt words at pair → lane < 2 → word_place height row slot ≡ at + lane
    → bit (get_or pair lane 0) (slot % 64) ≡ string_bit height words row slot
loaded-at words pair height row slot at lane loaded below place =
    ap (λ (w : ℕ). bit w (slot % 64)) (loaded lane below) ∙ string-at words height row slot (at + lane) place

-- the slot before in the same word
string-before-same : (words : List ℕ) (height row slot at previous : ℕ) → word_place height row slot ≡ at → (slot % 64 ≡ 0 → ⊥)
    → bit_before (get_or words at 0) previous (slot % 64) ≡ string_bit height words row (slot - 1)
string-before-same words height row slot at previous e other =
    let place : at ≡ word_place height row (slot - 1) = same-strip (slot / 64) ((slot - 1) / 64) height row at (omega (arith, other)) e in
    let one_less : slot % 64 - 1 ≡ (slot - 1) % 64 = omega (arith, other) in
    cond-false (slot % 64 == 0) _ _ (ne_eqb (slot % 64) 0 other) ∙ (λ t. bit (get_or words (place t) 0) (one_less t))

pub string-before : (words : List ℕ) (height row slot at : ℕ) → word_place height row slot ≡ at → 1 ≤ slot
    → bit_before (get_or words at 0) (get_or words (at - height) 0) (slot % 64) ≡ string_bit height words row (slot - 1)
string-before words height row slot at e behind = go (cases_eq (slot % 64) 0)
  where
    go : (slot % 64 ≡ 0) ⊎ (slot % 64 ≡ 0 → ⊥) → bit_before (get_or words at 0) (get_or words (at - height) 0) (slot % 64) ≡ string_bit height words row (slot - 1)
    go (inl lowest) =
        let place : at - height ≡ word_place height row (slot - 1) = strip-back (slot / 64) ((slot - 1) / 64) height row at (omega (arith, behind, lowest)) e in
        let last : 63 ≡ (slot - 1) % 64 = omega (arith, behind, lowest) in
        cond-true (slot % 64 == 0) _ _ (eq-eqb (slot % 64) 0 lowest) ∙ (λ t. bit (get_or words (place t) 0) (last t))
    go (inr other) = string-before-same words height row slot at (get_or words (at - height) 0) e other

first-strip : (strip height row at : ℕ) → strip * height + row ≡ at → at < height → strip ≡ 0
first-strip zero height row at e small = refl
first-strip (suc strip) height row at e small = absurd (omega (arith, e, small))

-- in the first strip nothing stands before a word
pub string-before-first : (words : List ℕ) (height row slot at : ℕ) → word_place height row slot ≡ at → 1 ≤ slot → at < height
    → bit_before (get_or words at 0) 0 (slot % 64) ≡ string_bit height words row (slot - 1)
string-before-first words height row slot at e behind small =
    let strip : slot / 64 ≡ 0 = first-strip (slot / 64) height row at e small in
    string-before-same words height row slot at 0 e (λ lowest. omega (arith, lowest, strip, behind))

pub string-behind : (words : List ℕ) (height row slot at : ℕ) → word_place height row slot ≡ at
    → bit_behind (get_or words at 0) (get_or words (at + height) 0) (slot % 64) ≡ string_bit height words row (slot + 1)
string-behind words height row slot at e = go (cases_eq (slot % 64) 63)
  where
    go : (slot % 64 ≡ 63) ⊎ (slot % 64 ≡ 63 → ⊥) → bit_behind (get_or words at 0) (get_or words (at + height) 0) (slot % 64) ≡ string_bit height words row (slot + 1)
    go (inl last) =
        let place : at + height ≡ word_place height row (slot + 1) = strip-on (slot / 64) ((slot + 1) / 64) height row at (omega (arith, last)) e in
        let lowest : 0 ≡ (slot + 1) % 64 = omega (arith, last) in
        cond-true (slot % 64 == 63) _ _ (eq-eqb (slot % 64) 63 last) ∙ (λ t. bit (get_or words (place t) 0) (lowest t))
    go (inr other) =
        let place : at ≡ word_place height row (slot + 1) = same-strip (slot / 64) ((slot + 1) / 64) height row at (omega (arith, other)) e in
        let one_more : slot % 64 + 1 ≡ (slot + 1) % 64 = omega (arith, other) in
        cond-false (slot % 64 == 63) _ _ (ne_eqb (slot % 64) 63 other) ∙ (λ t. bit (get_or words (place t) 0) (one_more t))

pub coins-both : (coins lows : List ℕ) (height row slot at : ℕ) → word_place height row slot ≡ at → 1 ≤ slot
    → (bit (bit_and (get_or coins at 0) (get_or lows at 0)) (slot % 64)
    || bit_before (bit_and (get_or coins at 0) (get_or lows at 0)) (bit_and (get_or coins (at - height) 0) (get_or lows (at - height) 0)) (slot % 64))
    ≡ coin_bit height coins lows row slot
coins-both coins lows height row slot at e behind =
    λ t.
    (bit-and (get_or coins at 0) (get_or lows at 0) (slot % 64)
    ∙ (λ s. string-at coins height row slot at e s && string-at lows height row slot at e s)) t
    || (bit_before-and (get_or coins at 0) (get_or lows at 0) (get_or coins (at - height) 0) (get_or lows (at - height) 0) (slot % 64)
    ∙ (λ s. string-before coins height row slot at e behind s && string-before lows height row slot at e behind s)) t
