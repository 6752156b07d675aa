-- Accepted regions, their samples, and regions without a tiling: what is said of all tilings is proved by
-- going through all lists of tiles.
use Rattle.std.proofs.Common.{◌≡◌, ℕ, ◌<◌, ◌≤◌, Bool, true, false, List, [], ◌∷◌, refl, sym, ◌∙◌, subst, arith, codes, length}
use Rattle.std.specs.Prelude.{IsTrue, ◌^◌}
use Rattle.tl_definitions.specs.declared.Kind.TheVariants.{Square, Triangle}
use Rattle.tl_definitions.specs.declared.Tile.{Tile}
use Rattle.tl_definitions.specs.Lattice.{cell, corner}
use Rattle.tl_definitions.specs.Region.{Region}
use Rattle.tl_definitions.specs.Accepted.{Accepted}
use Rattle.tl_lists.specs.Lists.{linked}
use Rattle.tl_formats.specs.RegionText.{region_of}
use Rattle.tl_definitions.specs.Tiling.{tiles, tile_lt, is_tiling, HasTiling}
use Rattle.tl_definitions.specs.Sweep.{carried, Gathers, IsSample, IsLate}
use Rattle.tl_definitions.specs.Flip.{IsFlipPath, IsFlipDistance, IsTop, IsBottom}
use Rattle.tl_definitions.specs.declared.Corner.{Corner}
use Rattle.tl_formats.proofs.Cases.{walk_of, drawn, tiling_eq, first_bits, found, gathers_from}
use Rattle.tl_definitions.proofs.Decide.{one_part}
use Rattle.tl_definitions.proofs.Tiles.{In-tilings}
use Rattle.tl_lists.proofs.Members.{In, Each}

sample_at_1 : (R : Region) (bits : ℕ → ℕ → Bool) (bound : ℕ) (S : List Tile) → linked tile_lt (tiles R) ≡ true → is_tiling R S ≡ true
    → Each (λ A. carried R bits 1 A ≡ S) (found R) → IsSample R bits bound 1 S
sample_at_1 R bits bound S l t each = record {
  start = record {
    exponent = 0;
    power = refl;
    within = omega arith;
    holds = λ A B p q. gathers_from R bits 1 S l each A p ∙ sym (gathers_from R bits 1 S l each B q);
    least = λ k h. absurd (omega (arith, h));
  };
  tiling = t;
  common = gathers_from R bits 1 S l each;
}

-- ---- the square of four cells

abbrev two_two : Region
two_two = region_of Square (codes "##" ∷ codes "##" ∷ [])

abbrev upright : List Tile
upright = drawn two_two (codes "vv" ∷ codes "^^" ∷ [])

-- acceptance by the tests
accepted_two : Accepted two_two
accepted_two = record {
  placed = refl;
  nonempty = λ e. cc e;
  joined = one_part two_two 4 (cell 0 0) refl refl;
  no_pinch = refl;
  circuit = (walk_of two_two, record { on_boundary = refl; whole = refl; closed = refl; once = refl; first = refl });
  euler = refl;
}

sample_two : IsSample two_two first_bits 24 1 upright
sample_two = sample_at_1 two_two first_bits 24 upright refl refl (refl, (refl, tt))

-- ---- two rows of three and of four cells

abbrev rows_3 : List (List ℕ)
rows_3 = codes "###" ∷ codes "###" ∷ []

abbrev two_three : Region
two_three = region_of Square rows_3

accepted_three : Accepted two_three
accepted_three = record {
  placed = refl;
  nonempty = λ e. cc e;
  joined = one_part two_three 4 (cell 0 0) refl refl;
  no_pinch = refl;
  circuit = (walk_of two_three, record { on_boundary = refl; whole = refl; closed = refl; once = refl; first = refl });
  euler = refl;
}

abbrev upright_3 : List Tile
upright_3 = drawn two_three (codes "vvv" ∷ codes "^^^" ∷ [])

sample_three : IsSample two_three first_bits 24 1 upright_3
sample_three = sample_at_1 two_three first_bits 24 upright_3 refl refl (refl, (refl, (refl, tt)))

abbrev rows_4 : List (List ℕ)
rows_4 = codes "####" ∷ codes "####" ∷ []

abbrev two_four : Region
two_four = region_of Square rows_4

accepted_four : Accepted two_four
accepted_four = record {
  placed = refl;
  nonempty = λ e. cc e;
  joined = one_part two_four 5 (cell 0 0) refl refl;
  no_pinch = refl;
  circuit = (walk_of two_four, record { on_boundary = refl; whole = refl; closed = refl; once = refl; first = refl });
  euler = refl;
}

abbrev upright_4 : List Tile
upright_4 = drawn two_four (codes "vvvv" ∷ codes "^^^^" ∷ [])

abbrev middle_4 : List Tile
middle_4 = drawn two_four (codes "v><v" ∷ codes "^><^" ∷ [])

apart : (b : Bool) → b ≡ true → b ≡ false → ⊥
apart b h k = cc (sym h ∙ k)

same_tiling : (A B : List Tile) → A ≡ B → tiling_eq B B ≡ true → tiling_eq A B ≡ true
same_tiling A B e h = subst (λ C. tiling_eq C B ≡ true) (sym e) h

-- from start 1 these two are carried to different tilings
not_from_1 : ¬ Gathers two_four first_bits 1
not_from_1 g =
    apart (tiling_eq (carried two_four first_bits 1 upright_4) (carried two_four first_bits 1 middle_4))
    (same_tiling (carried two_four first_bits 1 upright_4) (carried two_four first_bits 1 middle_4) (g upright_4 middle_4 refl refl) refl)
    refl

sample_four : IsSample two_four first_bits 24 2 upright_4
sample_four = record {
  start = record {
    exponent = 1;
    power = refl;
    within = omega arith;
    holds = λ A B p q. common A p ∙ sym (common B q);
    least = λ k h g. not_from_1 (subst (λ T. Gathers two_four first_bits (2 ^ T)) (zero_of k h) g);
  };
  tiling = refl;
  common = common;
}
  where
    common : (A : List Tile) → IsTrue (is_tiling two_four A) → carried two_four first_bits 2 A ≡ upright_4
    common A p = gathers_from two_four first_bits 2 upright_4 refl (refl, (refl, (refl, (refl, (refl, tt))))) A p

    zero_of : (k : ℕ) → k < 1 → k ≡ 0
    zero_of k h = omega arith

late_four : IsLate two_four first_bits 0
late_four k h g = not_from_1 (subst (λ T. Gathers two_four first_bits (2 ^ T)) (zero_of k h) g)
  where
    zero_of : (k : ℕ) → k ≤ 0 → k ≡ 0
    zero_of k h = omega arith

-- ---- one domino: no inner corner

abbrev domino : Region
domino = region_of Square (codes "##" ∷ [])

abbrev the_domino : List Tile
the_domino = drawn domino (codes "><" ∷ [])

accepted_domino : Accepted domino
accepted_domino = record {
  placed = refl;
  nonempty = λ e. cc e;
  joined = one_part domino 2 (cell 0 0) refl refl;
  no_pinch = refl;
  circuit = (walk_of domino, record { on_boundary = refl; whole = refl; closed = refl; once = refl; first = refl });
  euler = refl;
}

-- ---- regions without a tiling

no_tiling : (R : Region) → linked tile_lt (tiles R) ≡ true → found R ≡ [] → ¬ HasTiling R
no_tiling R l e (A, t) = subst (λ As. In A As) e (In-tilings R A l t)

abbrev one : Region
one = region_of Square (codes "#" ∷ [])

accepted_one : Accepted one
accepted_one = record {
  placed = refl;
  nonempty = λ e. cc e;
  joined = one_part one 1 (cell 0 0) refl refl;
  no_pinch = refl;
  circuit = (walk_of one, record { on_boundary = refl; whole = refl; closed = refl; once = refl; first = refl });
  euler = refl;
}

abbrev down : Region
down = region_of Triangle (codes ".#" ∷ [])

accepted_down : Accepted down
accepted_down = record {
  placed = refl;
  nonempty = λ e. cc e;
  joined = one_part down 1 (cell 0 1) refl refl;
  no_pinch = refl;
  circuit = (walk_of down, record { on_boundary = refl; whole = refl; closed = refl; once = refl; first = refl });
  euler = refl;
}

abbrev steep_rows : List (List ℕ)
steep_rows = codes ".#.." ∷ codes "####" ∷ codes "..#." ∷ []

abbrev steep : Region
steep = region_of Square steep_rows

accepted_steep : Accepted steep
accepted_steep = record {
  placed = refl;
  nonempty = λ e. cc e;
  joined = one_part steep 5 (cell 0 1) refl refl;
  no_pinch = refl;
  circuit = (walk_of steep, record { on_boundary = refl; whole = refl; closed = refl; once = refl; first = refl });
  euler = refl;
}

-- ---- gen --summary

abbrev staircase : Region
staircase = region_of Square (codes "#" ∷ codes "##" ∷ codes "###" ∷ [])

accepted_staircase : Accepted staircase
accepted_staircase = record {
  placed = refl;
  nonempty = λ e. cc e;
  joined = one_part staircase 5 (cell 0 0) refl refl;
  no_pinch = refl;
  circuit = (walk_of staircase, record { on_boundary = refl; whole = refl; closed = refl; once = refl; first = refl });
  euler = refl;
}

abbrev hexagon : Region
hexagon = region_of Triangle (codes "###" ∷ codes "###" ∷ [])

accepted_hexagon : Accepted hexagon
accepted_hexagon = record {
  placed = refl;
  nonempty = λ e. cc e;
  joined = one_part hexagon 5 (cell 0 0) refl refl;
  no_pinch = refl;
  circuit = (walk_of hexagon, record { on_boundary = refl; whole = refl; closed = refl; once = refl; first = refl });
  euler = refl;
}

abbrev bottom : List Tile
bottom = drawn hexagon (codes "v><" ∷ codes "^><" ∷ [])

abbrev top : List Tile
top = drawn hexagon (codes "><v" ∷ codes "><^" ∷ [])

sample_hexagon : IsSample hexagon first_bits 24 1 bottom
sample_hexagon = sample_at_1 hexagon first_bits 24 bottom refl refl (refl, (refl, tt))

not_same : ¬ (bottom ≡ top)
not_same e = apart (tiling_eq bottom top) (same_tiling bottom top e refl) refl

at_least_one : (path : List Corner) → IsFlipPath hexagon bottom path top → 1 ≤ length path
at_least_one [] p = absurd (not_same p)
at_least_one (v ∷ vs) p = omega arith

span_hexagon : IsFlipDistance hexagon bottom top 1
span_hexagon = (corner 1 2 ∷ [], record { leads = (refl, refl); least = at_least_one }, refl)

rank_hexagon : IsFlipDistance hexagon bottom bottom 0
rank_hexagon = ([], record { leads = refl; least = λ path p. omega arith }, refl)

top_hexagon : IsTop hexagon top
top_hexagon = record { tiling = refl; none_low = refl }

bottom_hexagon : IsBottom hexagon bottom
bottom_hexagon = record { tiling = refl; none_high = refl }

sample_domino : IsSample domino first_bits 0 1 the_domino
sample_domino = sample_at_1 domino first_bits 0 the_domino refl refl (refl, tt)

none_one : ¬ HasTiling one
none_one = no_tiling one refl refl

none_down : ¬ HasTiling down
none_down = no_tiling down refl refl

none_steep : ¬ HasTiling steep
none_steep = no_tiling steep refl refl

none_staircase : ¬ HasTiling staircase
none_staircase = no_tiling staircase refl refl
