-- What the theorems say of small regions, and that their premises can't be left out.
use Rattle.std.proofs.Common.{◌≡◌, ℕ, ◌^◌, zero, suc, Bool, true, List, [], ◌∷◌, refl, sym, ◌∙◌, arith, codes, inl, inr, ◌⊎◌}
use Rattle.std.specs.Prelude.{IsTrue, IsFalse}
use Rattle.tl_definitions.specs.declared.Kind.TheVariants.{Square}
use Rattle.tl_definitions.specs.declared.Tile.{Tile}
use Rattle.tl_definitions.specs.Lattice.{cell, corner}
use Rattle.tl_definitions.specs.Region.{Region}
use Rattle.tl_formats.specs.RegionText.{region_of}
use Rattle.tl_definitions.specs.Tiling.{is_tiling}
use Rattle.tl_definitions.specs.Flip.{can_flip, put_high, put_low}
use Rattle.tl_definitions.specs.Sweep.{step, carried, Gathers, IsSample, IsLate}
use Rattle.tl_definitions.proofs.Tiles.{In-tilings}
use Rattle.tl_formats.proofs.Cases.{drawn}
use Rattle.tl_formats.proofs.Cases.{gathers_from}
use Rattle.tl_samples.proofs.Around.{IsAround}
use Rattle.tl_samples.proofs.Put.{put_low-stands_low}
use Rattle.tl_samples.proofs.Gathering.{tiling_eq-Decides}
use Rattle.tl_samples.proofs.Samples.{sample-or-late, sample-not_late}

-- ---- the square of four cells has a sample under every bound, whatever the bits: one step decides

abbrev two_two : Region
two_two = region_of Square (codes "##" ∷ codes "##" ∷ [])

abbrev upright : List Tile
upright = drawn two_two (codes "vv" ∷ codes "^^" ∷ [])

gathers_two : (bits : ℕ → ℕ → Bool) → Gathers two_two bits 1
gathers_two bits A B a b = one A a ∙ sym (one B b)
  where
    one : (A : List Tile) → IsTrue (is_tiling two_two A) → carried two_two bits 1 A ≡ carried two_two bits 1 upright
    one A a = gathers_from two_two bits 1 (carried two_two bits 1 upright) refl (refl, (refl, tt)) A a

sample_two : (bits : ℕ → ℕ → Bool) (bound : ℕ) → (T : ℕ) × (S : List Tile) × IsSample two_two bits bound T S
sample_two bits bound = go (sample-or-late two_two bits bound refl (upright, refl))
  where
    go : ((T : ℕ) × (S : List Tile) × IsSample two_two bits bound T S) ⊎ IsLate two_two bits bound → (T : ℕ) × (S : List Tile) × IsSample two_two bits bound T S
    go (inl s) = s
    go (inr late) = absurd (late 0 (omega arith) (gathers_two bits))

-- ---- the ring of eight cells has two tilings and no inner corner: it is late under every bound

abbrev eight : Region
eight = region_of Square (codes "###" ∷ codes "#.#" ∷ codes "###" ∷ [])

abbrev one_way : List Tile
one_way = drawn eight (codes "><v" ∷ codes "v.^" ∷ codes "^><" ∷ [])

abbrev other_way : List Tile
other_way = drawn eight (codes "v><" ∷ codes "^.v" ∷ codes "><^" ∷ [])

carried-eight : (bits : ℕ → ℕ → Bool) (T : ℕ) (A : List Tile) → carried eight bits T A ≡ A
carried-eight bits zero A = refl
carried-eight bits (suc t) A = carried-eight bits t A

ways-differ : one_way ≡ other_way → ⊥
ways-differ e = cc ((tiling_eq-Decides one_way other_way).1 e)

late_eight : (bits : ℕ → ℕ → Bool) (bound : ℕ) → IsLate eight bits bound
late_eight bits bound k l gathers =
    ways-differ (sym (carried-eight bits (2 ^ k) one_way) ∙ (gathers one_way other_way refl refl ∙ carried-eight bits (2 ^ k) other_way))

no_sample_eight : (bits : ℕ → ℕ → Bool) (bound T : ℕ) (S : List Tile) → IsSample eight bits bound T S → ⊥
no_sample_eight bits bound T S s = sample-not_late eight bits bound T S s (late_eight bits bound)

-- ---- one cell has no tiling: it has no sample, and it isn't late either

abbrev one_cell : Region
one_cell = region_of Square (codes "#" ∷ [])

no_tiling_one : (A : List Tile) → IsTrue (is_tiling one_cell A) → ⊥
no_tiling_one A a = In-tilings one_cell A refl a

no_sample_one : (bits : ℕ → ℕ → Bool) (bound T : ℕ) (S : List Tile) → IsSample one_cell bits bound T S → ⊥
no_sample_one bits bound T S s = no_tiling_one S s.tiling

not_late_one : (bits : ℕ → ℕ → Bool) (bound : ℕ) → IsLate one_cell bits bound → ⊥
not_late_one bits bound late = late 0 (omega arith) (λ A B a b. absurd (no_tiling_one A a))

-- ---- putting high or low

-- the upright tiling stands low, so that putting it low changes nothing, but putting it high does
upright_low : put_low two_two upright (corner 1 1) ≡ upright
upright_low = put_low-stands_low two_two upright (corner 1 1) refl refl refl

upright_high : put_high two_two upright (corner 1 1) ≡ upright → ⊥
upright_high e = cc ((tiling_eq-Decides (put_high two_two upright (corner 1 1)) upright).1 e)

-- where a tiling stands neither way, a step leaves it, and putting it high would make no tiling
abbrev two_three : Region
two_three = region_of Square (codes "###" ∷ codes "###" ∷ [])

abbrev flat_left : List Tile
flat_left = drawn two_three (codes "><v" ∷ codes "><^" ∷ [])

neither_way : IsFalse (can_flip two_three flat_left (corner 1 2))
neither_way = refl

step_neither : (bit : Bool) → step two_three flat_left (corner 1 2) bit ≡ flat_left
step_neither bit = refl

put_neither : IsFalse (is_tiling two_three (put_high two_three flat_left (corner 1 2)))
put_neither = refl

-- where the cells stand in another order, a step can make a list that isn't ascending
abbrev misplaced : Region
misplaced = record { kind = Square; rows = 2; columns = 2; cells = cell 1 0 ∷ cell 1 1 ∷ cell 0 0 ∷ cell 0 1 ∷ [] }

tiling_misplaced : IsTrue (is_tiling misplaced upright)
tiling_misplaced = refl

step_misplaced : IsFalse (is_tiling misplaced (step misplaced upright (corner 1 1) true))
step_misplaced = refl

-- ---- no tiles are tiles round a corner of a cell

none_around : IsAround two_two (corner 1 1) [] → ⊥
none_around a = (a.covered (cell 0 0) (inr (inr (inr (inl refl))))).1
