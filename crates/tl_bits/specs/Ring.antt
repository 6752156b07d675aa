-- A ring of 128 words: word n of a stream has the place n mod 128. It holds any 128 words in a row.
use Rattle.std.specs.Prelude.{◌≡◌, ◌^◌, ℕ, ◌+◌, ◌*◌, ◌%◌, ◌<◌, ◌≤◌, List, slice_index}
use Rattle.rand_chacha.specs.ChaCha.{ChaCha, word_at}
use Rattle.tl_bits.specs.declared.stream.Held.{Held}

-- these are the next 16 words of a generator
pub record IsBlock (g : ChaCha) (words : List ℕ) : Type 0 where
  pub words_are : (i : ℕ) → i < 16 → slice_index words i ≡ word_at 10 g.key g.stream (g.word_pos + i)

-- the ring has the words from low on and below high, each in its place
pub record HoldsWords (k : List ℕ) (stream : ℕ) (ring : List ℕ) (low high : ℕ) : Type 0 where
  pub words_are : (n : ℕ) → low ≤ n → n < high → slice_index ring (n % 128) ≡ word_at 10 k stream n

-- the block of this number was put into a ring of 128 words, and the others were left
pub record PutsBlock (old new : List ℕ) (number : ℕ) (words : List ℕ) : Type 0 where
  pub put : (i : ℕ) → i < 16 → slice_index new ((16 * number + i) % 128) ≡ slice_index words i
  pub left : (n : ℕ) → 16 * number + 16 ≤ n → n < 16 * number + 128 → slice_index new (n % 128) ≡ slice_index old (n % 128)

-- these words were put into a ring of 128, and those that can stand beside them were left
pub record PutsWords (k : List ℕ) (stream : ℕ) (old new : List ℕ) (low high : ℕ) : Type 0 where
  pub put : HoldsWords k stream new low high
  pub left : (n : ℕ) → high ≤ n → n < low + 128 → slice_index new (n % 128) ≡ slice_index old (n % 128)

-- what a ring of 128 words may have: the words of whole blocks, four at a time
pub record IsHeld (held : Held) : Type 0 where
  pub aligned : held.first % 16 ≡ 0
  pub bound : held.first < 2 ^ 48
  pub whole : held.count % 64 ≡ 0
  pub within : held.count ≤ 128
