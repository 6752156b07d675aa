-- The numbered words and bits.
use Rattle.std.proofs.Common.{◌≡◌, ◌==◌, ◌^◌, true, false, [], ◌∷◌, map, refl}
use Rattle.rand_chacha.specs.Block.{quarter_round, column_round, diagonal_round, double_rounds, block_word}
use Rattle.tl_lists.specs.Lists.{upto}
use Rattle.tl_bits.specs.Bits.{key, word, place, words_for, bit, bit_at}
use Rattle.tl_bits.specs.Sources.{numbered_word, listed_word}

first_words : map (λ k. word 0 0 k) (upto 4) ≡ 0xade0b876 ∷ 0x903df1a0 ∷ 0xe56a5d40 ∷ 0x28bd8653 ∷ []
unfolding quarter_round column_round diagonal_round double_rounds block_word
first_words = refl

-- a word across the 32-bit halves of the seed and past the first block, by another program
far_word : word 0x0123456789abcdef 0xfedcba98 3221225471 ≡ 0xe3d1f14e
unfolding quarter_round column_round diagonal_round double_rounds block_word
far_word = refl

-- the bits of the corners 0 to 4 at the times -1 to -4
bits_first : map (bit 5 0 0 1) (upto 5) ≡ false ∷ true ∷ true ∷ false ∷ true ∷ []
unfolding quarter_round column_round diagonal_round double_rounds block_word
bits_first = refl

bits_second : map (bit 5 0 0 2) (upto 5) ≡ false ∷ false ∷ false ∷ false ∷ false ∷ []
unfolding quarter_round column_round diagonal_round double_rounds block_word
bits_second = refl

bits_third : map (bit 5 0 0 3) (upto 5) ≡ false ∷ false ∷ false ∷ false ∷ false ∷ []
unfolding quarter_round column_round diagonal_round double_rounds block_word
bits_third = refl

bits_fourth : map (bit 5 0 0 4) (upto 5) ≡ true ∷ true ∷ false ∷ false ∷ true ∷ []
unfolding quarter_round column_round diagonal_round double_rounds block_word
bits_fourth = refl

-- Near readings that are others: the sample's number is no seed, it stands in the low half of the stream's
-- number, the first time has the first word, and bit 0 is the lowest.
sample_is_no_seed : (word 1 0 0 == word 0 1 0) ≡ false
unfolding quarter_round column_round diagonal_round double_rounds block_word
sample_is_no_seed = refl

sample_stands_low : (block_word 10 (key 0) 0 (2 ^ 32) 0 == word 0 1 0) ≡ false
unfolding quarter_round column_round diagonal_round double_rounds block_word
sample_stands_low = refl

first_time : numbered_word (record { seed = 0; sample = 0; words = 1 }) 1 0 ≡ word 0 0 0
first_time = refl

lowest_bit_first : map (bit_at (λ t w. 1) 1) (upto 3) ≡ true ∷ false ∷ false ∷ []
lowest_bit_first = refl

-- 32 corners have one word, and 33 have two; the words of time -2 follow those of time -1
one_word : map words_for (0 ∷ 1 ∷ 32 ∷ 33 ∷ 64 ∷ 65 ∷ []) ≡ 0 ∷ 1 ∷ 1 ∷ 2 ∷ 2 ∷ 3 ∷ []
one_word = refl

places_in_turn : place 2 1 0 ∷ place 2 1 1 ∷ place 2 2 0 ∷ [] ≡ 0 ∷ 1 ∷ 2 ∷ []
places_in_turn = refl

-- a list of three words, two to each time
listed : map (listed_word (record { words = 2; list = 5 ∷ 6 ∷ 7 ∷ [] }) 2) (upto 2) ≡ 7 ∷ 0 ∷ []
listed = refl
