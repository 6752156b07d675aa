-- Tiles and tilings.
use Rattle.std.specs.Prelude.{Bool, ◌&&◌, ◌||◌, ◌==◌, List, map, filter, flat_map, count_by, find, Option, Some, None, option_map, if◌then◌else◌, IsTrue}
use Rattle.std.specs.List.{list_any, list_all, filter_map}
use Rattle.tl_definitions.specs.declared.Cell.{Cell}
use Rattle.tl_definitions.specs.declared.Tile.{Tile}
use Rattle.tl_definitions.specs.Lattice.{cell_eq, cell_lt, neighbours, are_neighbours}
use Rattle.tl_definitions.specs.Region.{Region, has}
use Rattle.tl_lists.specs.Lists.{present, linked}

-- the tile of two cells, the earlier in raster order first
abbrev pub tile_of : Cell → Cell → Tile
tile_of a b = if cell_lt a b then record { first = a; second = b } else record { first = b; second = a }

abbrev pub tile_eq : Tile → Tile → Bool
tile_eq s t = cell_eq s.first t.first && cell_eq s.second t.second

-- by the first cell, then by the second
abbrev pub tile_lt : Tile → Tile → Bool
tile_lt s t = cell_lt s.first t.first || (cell_eq s.first t.first && cell_lt s.second t.second)

abbrev pub covers : Tile → Cell → Bool
covers t a = cell_eq t.first a || cell_eq t.second a

-- whether the tile is one of the list
abbrev pub is_in : List Tile → Tile → Bool
is_in ts t = list_any (tile_eq t) ts

-- A tile of a region is a pair of neighbouring cells of it, the earlier in raster order first.
abbrev pub is_tile : Region → Tile → Bool
is_tile R t =
    has R t.first && has R t.second && cell_lt t.first t.second && are_neighbours R.kind t.first t.second

-- all tiles of the region, ascending
abbrev pub tiles : Region → List Tile
tiles R =
    flat_map (λ a. filter (is_tile R) (map (λ b. record { first = a; second = b }) (present (neighbours R.kind a)))) R.cells

-- A tiling is an ascending list of tiles of the region in which each of its cells stands in exactly one tile.
abbrev pub is_tiling : Region → List Tile → Bool
is_tiling R A =
    linked tile_lt A && list_all (is_tile R) A && list_all (λ a. count_by (λ t. covers t a) A == 1) R.cells

abbrev pub HasTiling : Region → Type 0
HasTiling R = (A : List Tile) × IsTrue (is_tiling R A)

-- the cell that shares the tile of this one
abbrev pub other_cell : Tile → Cell → Cell
other_cell t a = if cell_eq t.first a then t.second else t.first

abbrev pub partner : List Tile → Cell → Option Cell
partner A a = option_map (λ t. other_cell t a) (find (λ t. covers t a) A)

-- the tile of a cell and its partner, where the partner comes later in raster order
abbrev pub later_tile : Cell → Option Cell → Option Tile
later_tile a None = None
later_tile a (Some b) = if cell_lt a b then Some (record { first = a; second = b }) else None

-- the tiles of a choice of partners, ascending
abbrev pub tiles_by : (Cell → Option Cell) → List Cell → List Tile
tiles_by f cells = filter_map (λ a. later_tile a (f a)) cells

-- a region with a tiling of it, as contracts see what holds both
pub record Tiled : Type 0 where
  pub region : Region
  pub tiles : List Tile
