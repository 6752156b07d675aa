-- Rings of words that are moved up and down a stream.
use Rattle.std.proofs.Common.{◌≡◌, ℕ, ◌+◌, ◌-◌, ◌*◌, ◌%◌, ◌<◌, ◌≤◌, ◌⊎◌, inl, inr, List, get_or, ◌∙◌, arith}
use Rattle.std.proofs.lemmas.Bool.{cases_order}
use Rattle.rand_chacha.specs.ChaCha.{ChaCha}
use Rattle.tl_bits.specs.Ring.{HoldsWords, IsBlock, PutsBlock, PutsWords}

lt_or_ge : (a b : ℕ) → (a < b) ⊎ (b ≤ a)
lt_or_ge a b =
    elim (cases_order a b) [ inl same ↦ inr (omega arith) | inr (inl less) ↦ inl less | inr (inr more) ↦ inr (omega arith) ]

-- fewer words
pub holds_part : {k : List ℕ} {stream low high : ℕ} {ring : List ℕ} → HoldsWords k stream ring low high
    → (low' high' : ℕ) → low ≤ low' → high' ≤ high → HoldsWords k stream ring low' high'
holds_part holds low' high' above below = record { words_are = λ n from to. holds.words_are n (omega arith) (omega arith) }

-- a word below those that are put, if there is room for it
left_below : {k : List ℕ} {stream low high : ℕ} {old new : List ℕ} → PutsWords k stream old new low high
    → (n : ℕ) → high ≤ n + 128 → n < low → get_or new (n % 128) 0 ≡ get_or old (n % 128) 0
left_below puts n room below =
    let same : (n + 128) % 128 ≡ n % 128 = omega arith in
    rw same at (puts.left (n + 128) room (omega arith))

-- a generator's block is put
pub put_words : {g : ChaCha} {old new words : List ℕ} {number : ℕ} → PutsBlock old new number words → IsBlock g words
    → g.word_pos ≡ 16 * number → PutsWords g.key g.stream old new (16 * number) (16 * number + 16)
put_words {g = g} {new = new} {number = number} puts is at = record {
  put = record {
    words_are = λ n from to.
        let i : ℕ = n - 16 * number in
        let place : 16 * number + i ≡ n = omega arith in
        let there = puts.put i (omega arith) ∙ is.words_are i (omega arith) in
        rw (at, place) at there;
  };
  left = puts.left;
}

-- words that are put above others
pub put_above : {k : List ℕ} {stream start end : ℕ} {old new : List ℕ} → PutsWords k stream old new start end
    → {low middle : ℕ} → HoldsWords k stream old low middle → middle ≡ start
    → (high : ℕ) → end ≡ high → high ≤ low + 128 → HoldsWords k stream new low high
put_above {start = start} puts holds meet high reach room = record {
  words_are = λ n from to.
      elim (lt_or_ge n start) [
        | inl below ↦ left_below puts n (omega arith) below ∙ holds.words_are n from (omega arith)
        | inr above ↦ puts.put.words_are n above (omega arith)
      ];
}

-- words that are put below others
pub put_below : {k : List ℕ} {stream start end : ℕ} {old new : List ℕ} → PutsWords k stream old new start end
    → {middle high : ℕ} → HoldsWords k stream old middle high → end ≡ middle → (low' high' : ℕ) → start ≤ low' → high' ≤ high
    → high' ≤ start + 128 → HoldsWords k stream new low' high'
put_below {end = end} puts holds meet low' high' below above room = record {
  words_are = λ n from to.
      elim (lt_or_ge n end) [
        | inl less ↦ puts.put.words_are n (omega arith) less
        | inr more ↦ puts.left n more (omega arith) ∙ holds.words_are n (omega arith) (omega arith)
      ];
}

-- words that are put, and then words above them
pub put_more : {k : List ℕ} {stream low middle start end : ℕ} {a b c : List ℕ} → PutsWords k stream a b low middle
    → PutsWords k stream b c start end → middle ≡ start → low ≤ start → start ≤ end
    → (high : ℕ) → end ≡ high → high ≤ low + 128 → PutsWords k stream a c low high
put_more first second meet up upper high reach room = record {
  put = put_above second first.put meet high reach room;
  left = λ n from to. second.left n (omega arith) (omega arith) ∙ first.left n (omega arith) to;
}
