-- Sweeps of heights by words of bits.
use Rattle.std.specs.Prelude.{◌≡◌, ℕ, ◌/◌, ◌%◌, ◌^◌, ◌==◌, Bool, List, [], ◌∷◌, length, slice_index, ℤ}
use Rattle.tl_definitions.specs.Lattice.{classes}
use Rattle.tl_definitions.specs.Region.{Region, inner_corners}
use Rattle.tl_lists.specs.Lists.{upto}
use Rattle.tl_bits.specs.Bits.{words_for}
use Rattle.tl_steps.specs.Stepping.{AreSwept, is_of_class}

-- the bit of this number among words of 32 bits; bit 0 of a word is the lowest
abbrev pub bit_in : List ℕ → ℕ → Bool
bit_in words i = slice_index words (i / 32) / 2 ^ (i % 32) % 2 == 1

-- as many words as the inner corners have bits for
abbrev pub HasWordsFor : Region → List ℕ → Type 0
HasWordsFor R words = length words ≡ words_for (length (inner_corners R))

-- the others are the numbers after the steps at the inner corners of these classes, class after class
abbrev pub AreSweptInTurn : Region → (ℕ → Bool) → List ℕ → List ℤ → List ℤ → Type 0
AreSweptInTurn R bits [] numbers others = others ≡ numbers
AreSweptInTurn R bits (k ∷ ks) numbers others =
    (middle : List ℤ) × AreSwept R numbers middle bits (is_of_class R k) × AreSweptInTurn R bits ks middle others

-- the others are the numbers after a whole sweep: class 0 first, then class 1, and on the triangular lattice class 2
abbrev pub AreWhollySwept : Region → (ℕ → Bool) → List ℤ → List ℤ → Type 0
AreWhollySwept R bits numbers others = AreSweptInTurn R bits (upto (classes R.kind)) numbers others
