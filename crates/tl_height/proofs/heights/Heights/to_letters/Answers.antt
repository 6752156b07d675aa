use Rattle.std.proofs.Common.{◌≡◌, ℕ, ◌+◌, ◌*◌, List, [], ◌∷◌, length, map, sym, ◌∙◌, ap, subst, arith}
use Rattle.std.specs.Prelude.{flat_map, IsTrue}
use Rattle.std.specs.List.{range_with_len}
use Rattle.std.proofs.lemmas.List.{length-append}
use Rattle.std.proofs.lemmas.List.FromFn.{length-map-range_with_len}
use Rattle.tl_definitions.specs.declared.Tile.{Tile}
use Rattle.tl_definitions.specs.Lattice.{cell}
use Rattle.tl_definitions.specs.Region.{Region}
use Rattle.tl_lists.specs.Lists.{upto}
use Rattle.tl_definitions.specs.Accepted.{Accepted}
use Rattle.tl_definitions.specs.Tiling.{is_tiling, partner}
use Rattle.tl_formats.specs.Drawing.{letter}
use Rattle.tl_definitions.specs.Heights.{AreHeights, AreLawful}
use Rattle.tl_closing.proofs.Stated.{has-tiling}
use Rattle.tl_height.specs.HeightFunction.{HeightFunction}
use Rattle.tl_height.specs.Letters.{row_text, IsDrawnFrom}
use Rattle.tl_height.proofs.RowLemmas.{rows_more, rows_all}
use Rattle.tl_height.proofs.heights.Heights.to_letters.Goals as goal
use Rattle.tl_height.proofs.heights.Heights.to_letters.Goals.{After-columns}

rows : (c : After-columns) → c.rows-rows.result ≡ c.args.self.now.region.rows
rows c = c.rows-rows.ensures.rows ∙ ap (λ (f : HeightFunction). f.region.rows) c.self.view_is

columns : (c : After-columns) → c.columns.result ≡ c.args.self.now.region.columns
columns c = c.columns.ensures.columns ∙ ap (λ (f : HeightFunction). f.region.columns) c.self.view_is

-- the size of the text by what the calls gave
size : (c : After-columns) (n : ℕ) → n ≡ c.args.self.now.region.rows * (c.args.self.now.region.columns + 1) → n ≡ c.rows-rows.result * (c.columns.result + 1)
size c n e = e ∙ sym (ap (λ (m : ℕ). m * (c.columns.result + 1)) (rows c) ∙ ap (λ (m : ℕ). c.args.self.now.region.rows * (m + 1)) (columns c))

row_long : (R : Region) (A : List Tile) (r n : ℕ) → n ≡ R.columns → length (row_text R A r) ≡ n + 1
row_long R A r n e =
    let letters : length (map (λ c. letter (cell r c) (partner A (cell r c))) (range_with_len 0 R.columns)) ≡ R.columns = length-map-range_with_len _ 0 R.columns in
    length-append (map (λ c. letter (cell r c) (partner A (cell r c))) (range_with_len 0 R.columns)) (10 ∷ []) ∙ omega (arith, letters, e)

pub loop-r-preserved : goal.loop-r-preserved
loop-r-preserved c A tiling h =
    let k = (goal.at.loop-r-preserved c).After-columns in
    rows_more (row_text c.args.self.now.region A) (c.columns.result + 1) c.loop-r.r c.rows-rows.result c.loop-r.out c.write_row.new.line c.loop-r-test.true
    (size k (length c.loop-r.out) (c.loop-r.auto.out ∙ c.requires)) (row_long c.args.self.now.region A c.loop-r.r c.columns.result (columns k))
    (c.loop-r.invariant A tiling h) (c.write_row.ensures A tiling h)

pub returns : goal.returns
returns c = go (has-tiling c.args.self.now.region c.args.self.now.numbers accepted lawful)
  where
    k : After-columns
    k = (goal.at.returns c).After-columns

    accepted : Accepted c.args.self.now.region
    accepted = subst (λ (f : HeightFunction). Accepted f.region) c.self.view_is c.self.invariant.accepted

    lawful : AreLawful c.args.self.now.region c.args.self.now.numbers
    lawful = subst (λ (f : HeightFunction). AreLawful f.region f.numbers) c.self.view_is c.self.invariant.lawful

    go : (A : List Tile) × IsTrue (is_tiling c.args.self.now.region A) × AreHeights c.args.self.now.region A c.args.self.now.numbers
        × ((B : List Tile) → IsTrue (is_tiling c.args.self.now.region B) → AreHeights c.args.self.now.region B c.args.self.now.numbers → B ≡ A)
        → IsDrawnFrom c.args.self.now.region c.args.self.now.numbers c.loop-r.out
    go (A, tiling, h, only) = record {
      tiles = A;
      tiling = tiling;
      heights = h;
      drawn = rows_all (row_text c.args.self.now.region A) (c.columns.result + 1) c.loop-r.r c.rows-rows.result c.loop-r.out c.loop-r-test.false c.loop-r.auto.r-end
          (size k (length c.loop-r.out) (c.loop-r.auto.out ∙ c.requires)) (c.loop-r.invariant A tiling h)
          ∙ ap (λ (n : ℕ). flat_map (row_text c.args.self.now.region A) (upto n)) (rows k);
      only = only;
    }
