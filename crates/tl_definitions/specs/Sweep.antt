-- Sweeps with given bits, and coupling from the past.
use Rattle.std.specs.Prelude.{◌≡◌, ℕ, zero, suc, Bool, ◌==◌, if◌then◌else◌, List, filter, fold, IsTrue}
use Rattle.std.specs.List.{enumerate_from}
use Rattle.tl_definitions.specs.declared.Corner.{Corner}
use Rattle.tl_definitions.specs.declared.Tile.{Tile}
use Rattle.tl_definitions.specs.Lattice.{class_of, classes}
use Rattle.tl_definitions.specs.Region.{Region, inner_corners}
use Rattle.tl_lists.specs.Lists.{upto}
use Rattle.tl_definitions.specs.Tiling.{is_tiling}
use Rattle.tl_definitions.specs.Flip.{can_flip, put_high, put_low}
use Rattle.tl_lists.specs.Powers.{IsLeastPower, NoPower}

-- The step at an inner corner leaves a tiling as it is where it stands neither high nor low there.
-- Otherwise it puts hi where the bit is 1, and lo where it is 0.
abbrev pub step : Region → List Tile → Corner → Bool → List Tile
step R A v b = if can_flip R A v then (if b then put_high R A v else put_low R A v) else A

-- the inner corners of one class, with their numbers, in raster order
abbrev pub class_corners : Region → ℕ → List (ℕ × Corner)
class_corners R k = filter (λ p. class_of R.kind p.1 == k) (enumerate_from 0 (inner_corners R))

-- the steps at the inner corners of one class, in raster order, each with the bit of its number
abbrev pub sweep_class : Region → (ℕ → Bool) → ℕ → List Tile → List Tile
sweep_class R bits k A = fold (λ B p. step R B p.1 (bits p.0)) A (class_corners R k)

-- the sweep: class 0 first, then class 1, and on the triangular lattice class 2
abbrev pub sweep : Region → (ℕ → Bool) → List Tile → List Tile
sweep R bits A = fold (λ B k. sweep_class R bits k B) A (upto (classes R.kind))

-- The tiling after the sweeps of the times -T, -(T - 1), .., -1, in that order. `bits t i` is the bit of
-- inner corner i at time -t.
abbrev pub carried : Region → (ℕ → ℕ → Bool) → ℕ → List Tile → List Tile
carried R bits zero A = A
carried R bits (suc t) A = carried R bits t (sweep R (bits (suc t)) A)

-- A start gathers where all tilings of the region are carried from it to one.
abbrev pub Gathers : Region → (ℕ → ℕ → Bool) → ℕ → Type 0
Gathers R bits T =
    (A B : List Tile) → IsTrue (is_tiling R A) → IsTrue (is_tiling R B) → carried R bits T A ≡ carried R bits T B

-- The start is the least of 1, 2, 4, .., 2 ^ bound that gathers, and the sample is the tiling to which every tiling of the
-- region is carried from it.
pub record IsSample (R : Region) (bits : ℕ → ℕ → Bool) (bound T : ℕ) (S : List Tile) : Type 0 where
  pub start : IsLeastPower (Gathers R bits) bound T
  pub tiling : IsTrue (is_tiling R S)
  pub common : (A : List Tile) → IsTrue (is_tiling R A) → carried R bits T A ≡ S

-- none of them gathers
abbrev pub IsLate : Region → (ℕ → ℕ → Bool) → ℕ → Type 0
IsLate R bits bound = NoPower (Gathers R bits) bound
