-- Kept words, one time behind the other.
use Rattle.std.proofs.Common.{◌≡◌, ℕ, ◌+◌, ◌-◌, ◌*◌, ◌<◌, ◌≤◌, List, [], ◌∷◌, ◌++◌, append_assoc, length, map, get_or, arith, inl, inr, ap, sym, ◌∙◌, length-append}
use Rattle.std.specs.Prelude.{slice_range}
use Rattle.std.specs.List.{range_with_len}
use Rattle.std.proofs.lemmas.Bool.{cases_lt}
use Rattle.std.proofs.lemmas.List.{get_or_append_left, get_or-append-add}
use Rattle.std.proofs.lemmas.List.Edits.{get_or-between}
use Rattle.std.proofs.lemmas.List.FromFn.{get_or-map-range_with_len, length-map-range_with_len, map-range_with_len_more}
use Rattle.std.proofs.lemmas.Nat.{mul-add-lt}
use Rattle.tl_kept.specs.Kept.{AreBegun, AreKept, HasTime}

-- a word of these times stands before the end of the last
within-times : (words times t w : ℕ) → 1 ≤ t → t ≤ times → w < words → 4 + (t - 1) * words + w < 4 + times * words
within-times words times t w first last within =
    let before = mul-add-lt (t - 1) words w times (omega arith) within in
    omega (arith, before)

-- one word of a time more
pub pushed-word : (words others : ℕ → ℕ) (before items : List ℕ) (w word : ℕ) → items ≡ before ++ map words (range_with_len 0 w)
    → word ≡ others w → others ≡ words → items ++ word ∷ [] ≡ before ++ map words (range_with_len 0 (w + 1))
pushed-word words others before items w word read value same =
    rw (read, value, same, map-range_with_len_more words 0 w w (omega arith)) (append_assoc before (map words (range_with_len 0 w)) (words w ∷ []))

-- the words of one time more
pub begun-more : (words times : ℕ) (word_at : ℕ → ℕ → ℕ) (kept : List ℕ) → AreBegun words times word_at kept
    → AreBegun words (times + 1) word_at (kept ++ map (word_at (times + 1)) (range_with_len 0 words))
begun-more words times word_at kept begun =
    let more = map (word_at (times + 1)) (range_with_len 0 words) in
    let count = length-map-range_with_len (word_at (times + 1)) 0 words in
    let joined = length-append kept more in
    record {
      size = omega (arith, begun.size, count, joined);
      each = λ t w first last within. elim (cases_lt t (times + 1)) [
        | inl earlier ↦ get_or_append_left kept more 0 (4 + (t - 1) * words + w)
            (omega (arith, begun.size, within-times words times t w first (omega arith) within))
            ∙ begun.each t w first (omega arith) within
        | inr later ↦
            let same : t ≡ times + 1 = omega arith in
            let before : t - 1 ≡ times = omega arith in
            let place : 4 + (t - 1) * words + w ≡ length kept + w = rw before (omega (arith, begun.size)) in
            ap (λ (k : ℕ). get_or (kept ++ more) k 0) place
            ∙ get_or-append-add kept more w 0
            ∙ get_or-map-range_with_len (word_at (times + 1)) 0 words w w 0 within (omega arith)
            ∙ ap (λ (t : ℕ). word_at t w) (sym same)
      ];
    }

-- the words of a kept time
pub kept-time : (words times : ℕ) (word_at : ℕ → ℕ → ℕ) (kept : List ℕ) (t : ℕ) → AreKept words times word_at kept → 1 ≤ t → t ≤ times
    → HasTime words (word_at t) (slice_range kept ((t - 1) * words) ((t - 1) * words + words + 8))
kept-time words times word_at kept t all first last w within =
    let start = (t - 1) * words in
    let place : start + (4 + w) ≡ 4 + start + w = omega arith in
    get_or-between kept start (start + words + 8) (4 + w) 0 (omega arith) ∙ ap (λ (k : ℕ). get_or kept k 0) place ∙ all.each t w first last within
