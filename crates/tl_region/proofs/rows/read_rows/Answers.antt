use Rattle.std.proofs.Common.{◌<◌, length, ◌+◌, ℕ, arith, subst, sym}
use Rattle.std.specs.Option.{option_copied}
use Rattle.std.specs.Prelude.{OnSome}
use Rattle.tl_lines.specs.Lines.{IsNextLine, section_at}
use Rattle.tl_region.proofs.RowLemmas.{AreReadSoFar, so_far-line}
use Rattle.tl_region.proofs.rows.read_rows.Goals as goal

pub loop-line-preserved : goal.loop-line-preserved
loop-line-preserved c =
    let rest = c.loop-line.rest.now in
    let after = c.next_line.result.1.now in
    let next = subst (λ o. IsNextLine rest (option_copied o) after) c.in-Some.is c.next_line.ensures.next in
    let shorter = subst (λ o. OnSome o (length after < length rest)) c.in-Some.is c.next_line.ensures.shorter in
    let more = so_far-line (section_at c.args.text.now) (section_at rest) (section_at after)
    c.loop-line.rows.count c.loop-line.rows.columns c.loop-line.rows.cells.items c.read_row.new.cells.items c.in-Some.line.now c.in-Ok-None.field-0
    c.loop-line.invariant.so_far next c.in-Ok-None.ensures.bad c.in-Ok-None.field-0-is (c.in-Ok-None.ensures.cells c.in-Ok-None.field-0-is) in
    record {
      so_far =
          subst (λ (w : ℕ). AreReadSoFar (section_at c.args.text.now) (section_at after) (c.loop-line.rows.count + 1) w c.read_row.new.cells.items)
          (sym c.max.ensures) more;
      within = omega (arith, c.loop-line.invariant.within, shorter);
    }
