-- What contracts see of the sources of bits.
use Rattle.std.specs.Prelude.{ℕ, ◌+◌, ◌*◌, ◌^◌, List, slice_index}
use Rattle.tl_bits.specs.Bits.{word, place}

-- the words of one seed and one sample number
pub record Stream : Type 0 where
  pub seed : ℕ
  pub sample : ℕ

-- these words, dealt out to the times -1, -2, .., so many to each
pub record Numbering : Type 0 where
  pub seed : ℕ
  pub sample : ℕ
  pub words : ℕ

-- word w of time -t
abbrev pub numbered_word : Numbering → ℕ → ℕ → ℕ
numbered_word b t w = word b.seed b.sample (place b.words t w)

-- a list of words, dealt out to the times -1, -2, .., so many to each
pub record Listing : Type 0 where
  pub words : ℕ
  pub list : List ℕ

-- word w of time -t: the entry at its number, or 0 past the list's end
abbrev pub listed_word : Listing → ℕ → ℕ → ℕ
listed_word b t w = slice_index b.list (place b.words t w)

-- the seed whose key this is
abbrev pub seed_of_key : List ℕ → ℕ
seed_of_key k = slice_index k 0 + slice_index k 1 * 2 ^ 32
