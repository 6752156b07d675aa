-- A row is such slots exactly where it has so many words, and each slot its bit.
use Rattle.std.proofs.Common.{◌≡◌, ℕ, ◌*◌, ◌<◌, Bool, true, false, [], ◌∷◌, length, map, get_or, refl, sym, ap, ◌∙◌, arith}
use Rattle.std.proofs.lemmas.List.FromFn.{length-map-range_with_len, get_or-map-range_with_len, fill_by_all}
use Rattle.tl_border.specs.declared.row.Row.{Row}
use Rattle.tl_border.specs.declared.row.RowBits.{RowBits}
use Rattle.tl_border.specs.Rows.{slot_bit, row_of_slots, bits_of_words, bits_of_row}

row_of_slots-length : (count : ℕ) (slots : ℕ → Bool) → length (row_of_slots count slots).bits ≡ 64 * count
row_of_slots-length count slots = length-map-range_with_len slots 0 (64 * count)

row_of_slots-bit : (count : ℕ) (slots : ℕ → Bool) (slot : ℕ) → slot < 64 * count → get_or (row_of_slots count slots).bits slot false ≡ slots slot
row_of_slots-bit count slots slot below = get_or-map-range_with_len slots 0 (64 * count) slot slot false below (omega arith)

pub slots-length : (row : Row) (count : ℕ) (slots : ℕ → Bool) → bits_of_row row ≡ row_of_slots count slots → length row.words.items ≡ count
slots-length row count slots same =
    let words = row.words.items in
    let known : 64 * length words ≡ 64 * count = sym (row_of_slots-length (length words) (slot_bit words))
    ∙ ap (λ (r : RowBits). length r.bits) same ∙ row_of_slots-length count slots in
    omega (arith, known)

pub slots-each : (row : Row) (count : ℕ) (slots : ℕ → Bool) → bits_of_row row ≡ row_of_slots count slots
    → (slot : ℕ) → slot < 64 * count → slot_bit row.words.items slot ≡ slots slot
slots-each row count slots same slot below =
    let words = row.words.items in
    let long = slots-length row count slots same in
    sym (row_of_slots-bit (length words) (slot_bit words) slot (omega (arith, long, below)))
    ∙ ap (λ (r : RowBits). get_or r.bits slot false) same ∙ row_of_slots-bit count slots slot below

pub slots-made : (row : Row) (count : ℕ) (slots : ℕ → Bool) → length row.words.items ≡ count
    → ((slot : ℕ) → slot < 64 * count → slot_bit row.words.items slot ≡ slots slot) → bits_of_row row ≡ row_of_slots count slots
slots-made row count slots long each =
    let words = row.words.items in
    let bits = (bits_of_row row).bits in
    let counted : length bits ≡ 64 * count = row_of_slots-length (length words) (slot_bit words) ∙ ap (λ n. 64 * n) long in
    ap (λ l. record { bits = l }) (fill_by_all slots bits (64 * count) false counted
    (λ slot below. row_of_slots-bit (length words) (slot_bit words) slot (omega (arith, long, below)) ∙ each slot below))

-- ---- the slots 1, 2 and 64 of two words
two_words : map (slot_bit (6 ∷ 1 ∷ [])) (0 ∷ 1 ∷ 2 ∷ 3 ∷ 63 ∷ 64 ∷ 65 ∷ []) ≡ false ∷ true ∷ true ∷ false ∷ false ∷ true ∷ false ∷ []
two_words = refl

-- turned round they have other slots
not_turned : bits_of_words (6 ∷ 1 ∷ []) ≡ bits_of_words (1 ∷ 6 ∷ []) → ⊥
not_turned same = let e : false ≡ true = ap (λ (r : RowBits). get_or r.bits 0 false) same in cc e

-- a word without a bit is a word all the same
not_shorter : bits_of_words (6 ∷ 0 ∷ []) ≡ bits_of_words (6 ∷ []) → ⊥
not_shorter same = omega (arith, ap (λ (r : RowBits). length r.bits) same)
