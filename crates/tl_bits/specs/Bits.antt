-- Numbered random words and bits: the ChaCha20 block function of RFC 8439, with a 64-bit block counter
-- and a 64-bit stream number.
use Rattle.std.specs.Prelude.{ℕ, ◌+◌, ◌-◌, ◌*◌, ◌/◌, ◌%◌, ◌^◌, Bool, ◌==◌, List, [], ◌∷◌, length}
use Rattle.rand_chacha.specs.Block.{block_word}
use Rattle.tl_definitions.specs.Region.{Region, inner_corners}

-- The key: the seed's eight bytes, little-endian, and 24 zero bytes, as eight little-endian words.
abbrev pub key : ℕ → List ℕ
key seed = seed % 2 ^ 32 ∷ seed / 2 ^ 32 ∷ 0 ∷ 0 ∷ 0 ∷ 0 ∷ 0 ∷ 0 ∷ []

-- Word k of a seed and a sample number: word k mod 16 of the block with counter k / 16, after 20 rounds,
-- which are ten double rounds. The stream number is the sample's number.
abbrev pub word : ℕ → ℕ → ℕ → ℕ
word seed sample k = block_word 10 (key seed) (k / 16) sample (k % 16)

-- the number of word w of time -t, where each time has so many words
abbrev pub place : ℕ → ℕ → ℕ → ℕ
place words t w = (t - 1) * words + w

-- how many words of 32 bits serve so many corners
abbrev pub words_for : ℕ → ℕ
words_for corners = (corners + 31) / 32

-- The bit of inner corner i at time -t, where word w of time -t is `word_at t w`: bit i mod 32 of word
-- i / 32. Bit 0 is the lowest.
abbrev pub bit_at : (ℕ → ℕ → ℕ) → ℕ → ℕ → Bool
bit_at word_at t i = word_at t (i / 32) / 2 ^ (i % 32) % 2 == 1

-- the bit of inner corner i at time -t, of so many inner corners
abbrev pub bit : ℕ → ℕ → ℕ → ℕ → ℕ → Bool
bit corners seed sample = bit_at (λ t w. word seed sample (place (words_for corners) t w))

-- the bits of a region's inner corners
abbrev pub bits_of : Region → ℕ → ℕ → ℕ → ℕ → Bool
bits_of R seed sample = bit (length (inner_corners R)) seed sample
