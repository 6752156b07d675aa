use Rattle.std.proofs.Common.{◌≡◌, ◌+◌, ◌-◌, ◌*◌, ℕ, false, refl, sym, subst, arith, take, drop, get_or}
use borrow.Rule.Slice.PartMut.{put_mid}
use Rattle.tl_definitions.specs.Lattice.{cell}
use Rattle.tl_definitions.specs.Region.{has}
use Rattle.tl_definitions.proofs.Regions.{has-within}
use Rattle.tl_tiling.specs.Letters.{ReadsLine}
use Rattle.tl_tiling.proofs.LineLemmas.{reads_line}
use Rattle.tl_tiling.proofs.letters.read_line.Goals as goal

pub returns-then-r-rows-clause-read : goal.returns-then-r-rows-clause-read
returns-then-r-rows-clause-read c = λ none. record {
  read = λ a e i. absurd (omega (arith, e, (has-within c.args.region.now a c.rows.ensures.is_grid.placed i).0, c.if-r-rows.true, c.rows.ensures.rows));
  kept = λ a i j o. refl;
}

pub returns-clause-read : goal.returns-clause-read
returns-clause-read c = λ none.
    let R = c.args.region.now in
    let r = c.args.r in
    let old = c.args.letters.now in
    let row = c.put_letters.new.row in
    let columns = c.columns-columns.ensures.columns in
    subst (λ (n : ℕ). ReadsLine R r c.args.line.now old (put_mid (r * n) (r * n + n - r * n) old row)) (sym columns)
    (reads_line R r c.args.line.now old row c.rows.ensures.is_grid.placed (omega (arith, c.if-r-rows.false, c.rows.ensures.rows)) c.requires.size (omega (arith, c.put_letters.auto.row))
    c.in_default.ensures c.put_letters.ensures.put
    (subst (λ (n : ℕ). (k : ℕ) → has R (cell r k) ≡ false → get_or row k 0 ≡ get_or (take (r * n + n - r * n) (drop (r * n) old)) k 0) columns c.put_letters.ensures.kept))
