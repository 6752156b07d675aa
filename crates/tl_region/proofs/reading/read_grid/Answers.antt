use Rattle.std.proofs.Common.{sym}
use Rattle.std.proofs.lemmas.Result.{err_from_is_err_and}
use Rattle.tl_region.specs.Rows.{IsBadByteOf, HasRefusedSize, region_by}
use Rattle.tl_lines.specs.Lines.{section_at}
use Rattle.tl_region.proofs.TextLemmas.{region_by-placed, refused_byte, refused_size, refused_section, readable, readable_section}
use Rattle.tl_region.proofs.reading.read_grid.Goals as goal

pub grid_from-requires : goal.grid_from-requires
grid_from-requires c = region_by-placed c.in-Some.kind _ c.in_ok-rows.rows c.in_ok-rows.ensures.rows

pub returns-in_err-rows-clause-refused : goal.returns-in_err-rows-clause-refused
returns-in_err-rows-clause-refused c =
    let p = err_from_is_err_and c.from_residual.result c.from_residual.ensures.1 in
    let lines = (section_at c.cut_line.result.1.now).lines in
    rw (p.1, p.2)
    (refused_section _ _ c.cut_line.result.1.now _ (IsBadByteOf lines) c.cut_line.ensures.first
    (λ f bad. refused_byte c.cut_line.result.0.now lines c.in-Some.kind f (sym c.in-Some.ensures) bad)
    c.in_err-rows.ensures.refused)

pub returns-in_err-grid-clause-refused : goal.returns-in_err-grid-clause-refused
returns-in_err-grid-clause-refused c =
    let p = err_from_is_err_and c.from_residual-in_err-grid.result c.from_residual-in_err-grid.ensures.1 in
    let lines = (section_at c.cut_line.result.1.now).lines in
    rw (p.1, p.2)
    (refused_section _ _ c.cut_line.result.1.now _ (HasRefusedSize (region_by c.in-Some.kind c.in_ok-rows.rows)) c.cut_line.ensures.first
    (λ f size. refused_size c.cut_line.result.0.now lines c.in-Some.kind c.in_ok-rows.rows f (sym c.in-Some.ensures) c.in_ok-rows.ensures.rows size)
    c.in_err-grid.ensures.refused)

pub returns-clause-region : goal.returns-clause-region
returns-clause-region c =
    let lines = (section_at c.cut_line.result.1.now).lines in
    let named = c.in_ok-grid.ensures.region in
    readable_section c.args.bytes.now _ c.cut_line.result.1.now c.in_ok-grid.grid c.cut_line.ensures.first
    (readable c.cut_line.result.0.now lines c.in-Some.kind c.in_ok-rows.rows c.in_ok-grid.grid (sym c.in-Some.ensures) c.in_ok-rows.ensures.rows named.0 named.1)
