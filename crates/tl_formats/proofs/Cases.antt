-- What the cases of the other files are written with.
use Rattle.std.proofs.Common.{◌≡◌, ℕ, zero, suc, ◌-◌, ◌/◌, ◌%◌, ◌^◌, Bool, true, not, ◌&&◌, List, [], ◌∷◌, ◌++◌, map, length, Option, Some, None, cond}
use Rattle.std.specs.Prelude.{filter, flat_map, find, option_and_then, slice_index, IsTrue, ◌==◌}
use Rattle.std.specs.List.{list_any}
use Rattle.std.specs.Str.{bytes_eq}
use Rattle.std.specs.Cmp.Lexicographic.{pointwise}
use Rattle.tl_definitions.specs.declared.Cell.{Cell}
use Rattle.tl_definitions.specs.declared.Tile.{Tile}
use Rattle.tl_definitions.specs.Lattice.{cell_eq, cell_lt, corner_eq, Side}
use Rattle.tl_definitions.specs.Region.{Region, inner_corners, boundary, corner_places}
use Rattle.tl_lists.specs.Lists.{linked}
use Rattle.tl_definitions.specs.Tiling.{tiles, is_tiling, tile_lt, tile_of, tile_eq, covers}
use Rattle.tl_formats.specs.Drawing.{drawing, named_at}
use Rattle.tl_definitions.specs.Flip.{flip, can_flip}
use Rattle.tl_definitions.specs.Sweep.{carried}
use Rattle.tl_definitions.proofs.Tiles.{In-tilings}
use Rattle.tl_lists.proofs.Orders.{sublists}
use Rattle.tl_lists.proofs.Members.{Each, Each-at}

-- The first random words of seed 0 and sample 0. The bit of inner corner i at time -t is bit i of word t, where
-- one word serves all corners.
abbrev pub first_words : List ℕ
first_words = 0xade0b876 ∷ 0x903df1a0 ∷ 0xe56a5d40 ∷ 0x28bd8653 ∷ []

abbrev pub first_bits : ℕ → ℕ → Bool
first_bits t i = slice_index first_words (t - 1) / 2 ^ i % 2 == 1

-- the lines, each with a line feed
abbrev pub input : List (List ℕ) → List ℕ
input [] = []
input (l ∷ ls) = l ++ (10 ∷ input ls)

-- a list of tiles, continued to every tiling of the cells that are left
abbrev pub extended : Region → List Tile → List Cell → List (List Tile)
extended R A [] = A ∷ []
extended R A (a ∷ cells) =
    let skipped = extended R A cells in
    let tried = flat_map (λ t. extended R (A ++ (t ∷ [])) cells)
    (filter (λ t. cell_eq t.first a && not (list_any (λ s. covers s t.second) A)) (tiles R)) in
    cond (list_any (λ s. covers s a) A) skipped tried

abbrev pub all_tilings : Region → List (List Tile)
all_tilings R = filter (is_tiling R) (extended R [] R.cells)

-- the texts, each once
abbrev pub each_once : List (List ℕ) → List (List ℕ)
each_once [] = []
each_once (x ∷ xs) = let rest = each_once xs in cond (list_any (bytes_eq x) rest) rest (x ∷ rest)

-- the drawings of the tilings to which all tilings are carried from a start
abbrev pub reached : Region → (ℕ → ℕ → Bool) → ℕ → List (List ℕ)
reached R bits T = each_once (map (λ A. drawing R (carried R bits T A)) (all_tilings R))

-- n boundary sides, each of which begins where the one before ends
abbrev pub walk_on : Region → ℕ → Option Side → List Side
walk_on R zero s = []
walk_on R (suc n) None = []
walk_on R (suc n) (Some s) = s ∷ walk_on R n (find (λ t. corner_eq s.to t.from) (boundary R))

-- the walk along the boundary from its corner that is first in raster order
abbrev pub walk_of : Region → List Side
walk_of R =
    let first = find (λ v. list_any (λ s. corner_eq s.from v) (boundary R)) (corner_places R) in
    walk_on R (length (boundary R)) (option_and_then (λ v. find (λ s. corner_eq s.from v) (boundary R)) first)

-- the tiling that letters draw
abbrev pub drawn_tile : List (List ℕ) → Cell → List Tile
drawn_tile rows a = elim (named_at rows a) [ None ↦ [] | Some b ↦ cond (cell_lt a b) (tile_of a b ∷ []) [] ]

abbrev pub drawn : Region → List (List ℕ) → List Tile
drawn R rows = flat_map (drawn_tile rows) R.cells

-- the tilings that one flip reaches, and their number of flips from a tiling
abbrev pub flips_of : Region → List Tile → List (List Tile)
flips_of R A = map (flip R A) (filter (can_flip R A) (inner_corners R))

abbrev pub tiling_eq : List Tile → List Tile → Bool
tiling_eq A B = pointwise tile_eq A B

abbrev pub each_tiling_once : List (List Tile) → List (List Tile)
each_tiling_once [] = []
each_tiling_once (A ∷ As) = let rest = each_tiling_once As in cond (list_any (tiling_eq A) rest) rest (A ∷ rest)

-- the tilings that so many flips reach
abbrev pub reach : Region → ℕ → List (List Tile) → List (List Tile)
reach R zero As = As
reach R (suc n) As = let near = reach R n As in each_tiling_once (near ++ flat_map (flips_of R) near)

abbrev pub reaches : Region → ℕ → List Tile → List Tile → Bool
reaches R n A B = list_any (tiling_eq B) (reach R n (A ∷ []))

-- every tiling of a small region
abbrev pub found : Region → List (List Tile)
found R = filter (is_tiling R) (sublists (tiles R))

-- a start from which each tiling that was found is carried to one gathers
pub gathers_from : (R : Region) (bits : ℕ → ℕ → Bool) (T : ℕ) (S : List Tile) → linked tile_lt (tiles R) ≡ true
    → Each (λ A. carried R bits T A ≡ S) (found R) → (A : List Tile) → IsTrue (is_tiling R A) → carried R bits T A ≡ S
gathers_from R bits T S l each A t = Each-at (λ B. carried R bits T B ≡ S) A (found R) each (In-tilings R A l t)
