use Rattle.std.proofs.Common.{◌≡◌, ℕ, ◌<◌, ◌≤◌, List, length, map, ◌++◌, [], ◌∷◌, get_or, sym, ◌∙◌, ap, subst, arith}
use Rattle.std.specs.List.{range_with_len}
use Rattle.tl_definitions.specs.declared.TheConstants.{SIDE_LIMIT}
use Rattle.tl_definitions.specs.Lattice.{cell}
use Rattle.tl_definitions.specs.Region.{has, row_part}
use Rattle.tl_definitions.specs.Tiling.{partner}
use Rattle.tl_formats.specs.Drawing.{letter}
use Rattle.tl_height.specs.HeightFunction.{HeightFunction}
use Rattle.tl_height.proofs.LetterLemmas.{flags-length, square-placed, triangle-placed}
use Rattle.tl_height.proofs.RowLemmas.{row_ends}
use Rattle.tl_height.proofs.heights.Heights.write_row.Goals as goal
use Rattle.tl_height.proofs.heights.Heights.write_row.Goals.{After-row-flags, After-kind, in-Square, in-Triangle}

flags : (c : After-row-flags) → c.row-flags.result.now ≡ map (has c.args.self.now.region) (row_part c.args.r 0 c.args.self.now.region.columns)
flags c = subst (λ (f : HeightFunction). c.row-flags.result.now ≡ map (has f.region) (row_part c.args.r 0 f.region.columns)) c.self.view_is c.row-flags.ensures.row

columns : (c : After-row-flags) → length c.row-flags.result.now ≡ c.args.self.now.region.columns
columns c = flags-length c.args.self.now.region c.args.r c.row-flags.result.now (flags c)

few : (c : After-row-flags) → c.args.self.now.region.columns ≤ SIDE_LIMIT
few c = subst (λ (f : HeightFunction). f.region.columns ≤ SIDE_LIMIT) c.self.view_is c.self.invariant.is_grid.columns_within

kind : (c : After-kind) → c.kind.result ≡ c.args.self.now.region.kind
kind c = c.kind.ensures ∙ ap (λ (f : HeightFunction). f.region.kind) c.self.view_is

pub write_squares-requires-clause-upper : goal.write_squares-requires-clause-upper
write_squares-requires-clause-upper c = omega (arith, columns (goal.at.write_squares-requires-clause-upper c).After-row-flags, c.row-upper.ensures.length)

pub write_squares-requires-clause-lower : goal.write_squares-requires-clause-lower
write_squares-requires-clause-lower c = omega (arith, columns (goal.at.write_squares-requires-clause-lower c).After-row-flags, c.row-lower.ensures.length)

pub write_squares-requires-clause-size : goal.write_squares-requires-clause-size
write_squares-requires-clause-size c = omega (arith, columns (goal.at.write_squares-requires-clause-size c).After-row-flags, c.requires.size)

pub write_triangles-requires-clause-columns : goal.write_triangles-requires-clause-columns
write_triangles-requires-clause-columns c =
    let k = (goal.at.write_triangles-requires-clause-columns c).After-row-flags in
    omega (arith, columns k, few k)

pub write_triangles-requires-clause-upper : goal.write_triangles-requires-clause-upper
write_triangles-requires-clause-upper c = omega (arith, columns (goal.at.write_triangles-requires-clause-upper c).After-row-flags, c.row-upper.ensures.length)

pub write_triangles-requires-clause-lower : goal.write_triangles-requires-clause-lower
write_triangles-requires-clause-lower c = omega (arith, columns (goal.at.write_triangles-requires-clause-lower c).After-row-flags, c.row-lower.ensures.length)

pub write_triangles-requires-clause-size : goal.write_triangles-requires-clause-size
write_triangles-requires-clause-size c = omega (arith, columns (goal.at.write_triangles-requires-clause-size c).After-row-flags, c.requires.size)

pub bounds-line-flags : goal.bounds-line-flags
bounds-line-flags c = omega (arith, columns (goal.at.bounds-line-flags c).After-row-flags, c.match-kind.auto.line, c.requires.size)

pub returns : goal.returns
returns c A tiling h =
    row_ends (λ k. letter (cell c.args.r k) (partner A (cell c.args.r k))) c.match-kind.line (length c.row-flags.result.now)
    (omega (arith, columns k, c.match-kind.auto.line, c.requires.size)) each
    ∙ ap (λ (n : ℕ). map (λ k. letter (cell c.args.r k) (partner A (cell c.args.r k))) (range_with_len 0 n) ++ 10 ∷ []) (columns k)
  where
    k : After-row-flags
    k = (goal.at.returns c).After-row-flags

    each : (x : ℕ) → x < length c.row-flags.result.now → get_or c.match-kind.line x 0 ≡ letter (cell c.args.r x) (partner A (cell c.args.r x))
    each x below = elim c.match-kind.branch [
      | in-Square w ↦
          ap (λ (l : List ℕ). get_or l x 0) w.line-is
          ∙ (w.write_squares.ensures.letters x below
          ∙ square-placed c.args.self.now.region A c.args.self.now.numbers tiling h c.args.r c.row-flags.result.now c.row-upper.result.now c.row-lower.result.now
          (flags k) c.row-upper.ensures.row c.row-lower.ensures.row x (sym w.in-Square.is ∙ kind (goal.at.returns c).After-kind) (omega (arith, below, columns k)))
      | in-Triangle w ↦
          ap (λ (l : List ℕ). get_or l x 0) w.line-is
          ∙ (w.write_triangles.ensures.letters x below
          ∙ triangle-placed c.args.self.now.region A c.args.self.now.numbers tiling h c.args.r c.row-flags.result.now c.row-upper.result.now c.row-lower.result.now
          (flags k) c.row-upper.ensures.row c.row-lower.ensures.row x (sym w.in-Triangle.is ∙ kind (goal.at.returns c).After-kind) (omega (arith, below, columns k)))
    ]
