-- A hand during a stretch.
use Rattle.std.specs.Prelude.{◌≡◌, ℕ, Bool, All, List, length}
use Rattle.tl_definitions.specs.Region.{Region, inner_corners}
use Rattle.tl_bits.specs.Bits.{bit_at, words_for}
use Rattle.tl_bits.specs.Sources.{Numbering}
use Rattle.tl_layout.specs.declared.layout.Layout.{Layout}
use Rattle.tl_layout.specs.declared.piece.Pieces.{Pieces}
use Rattle.tl_layout.specs.Coins.{ArePiecesOf}
use Rattle.tl_courses.specs.Courses.{Course}
use Rattle.tl_band.specs.declared.band.Band.{Band}
use Rattle.tl_band.specs.Bands.{IsBandAt}

-- What a hand lays out its coins by: so many words a time, with these bits for the inner corners.
pub record AreCoinsOf (R : Region) (l : Layout) (bits : ℕ → ℕ → Bool) (pieces : Pieces) (words : ℕ) (word_at : ℕ → ℕ → ℕ) : Type 0 where
  pub lays_out : ∥ ArePiecesOf R l pieces ∥₁
  pub enough : words ≡ words_for (length (inner_corners R))
  pub same_bits : bit_at word_at ≡ bits

-- the words of the sample of this seed and number, so many to each time
abbrev pub numbering : ℕ → ℕ → ℕ → Numbering
numbering seed sample words = record { seed = seed; sample = sample; words = words }

-- It lays out the coins of the stretch, by words of its own, and each of its bands is where it says.
pub record IsHandAt (R : Region) (bits : ℕ → ℕ → Bool) (c : Course) (pieces : Pieces) (words : ℕ) (word_at : ℕ → ℕ → ℕ) (bands : List Band) : Type 0 where
  pub coins : AreCoinsOf R c.layout bits pieces words word_at
  pub at : All (IsBandAt c) bands
