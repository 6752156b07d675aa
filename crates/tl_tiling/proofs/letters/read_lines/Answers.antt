use Rattle.std.proofs.Common.{◌<◌, length, subst, arith}
use Rattle.std.specs.Prelude.{OnSome}
use Rattle.std.specs.Option.{option_copied}
use Rattle.tl_lines.specs.Lines.{IsNextLine, section_at}
use Rattle.tl_tiling.proofs.ReadLemmas.{up_to-line, up_to-bad}
use Rattle.tl_tiling.proofs.letters.read_lines.Goals as goal

pub returns-in-Some-read_line-clause-bad : goal.returns-in-Some-read_line-clause-bad
returns-in-Some-read_line-clause-bad c =
    let rest = c.loop-line.rest.now in
    let after = c.next_line.result.1.now in
    let next = subst (λ o. IsNextLine rest (option_copied o) after) c.in-Some.is c.next_line.ensures.next in
    up_to-bad c.args.region.now (section_at c.args.text.now) (section_at rest) (section_at after) c.loop-line.r c.loop-line.letters c.in-Some.line.now c.in-Some-read_line.cell
    c.in-Some-read_line.ensures.is_grid.placed c.loop-line.invariant.read next c.in-Some-read_line.ensures.bad

pub loop-line-preserved : goal.loop-line-preserved
loop-line-preserved c =
    let R = c.args.region.now in
    let rest = c.loop-line.rest.now in
    let after = c.next_line.result.1.now in
    let next = subst (λ o. IsNextLine rest (option_copied o) after) c.in-Some.is c.next_line.ensures.next in
    let shorter = subst (λ o. OnSome o (length after < length rest)) c.in-Some.is c.next_line.ensures.shorter in
    let none = c.in_default-read_line.is in
    record {
      read =
          up_to-line R (section_at c.args.text.now) (section_at rest) (section_at after) c.loop-line.r c.loop-line.letters c.read_line.new.letters c.in-Some.line.now
          c.read_line.ensures.is_grid.placed c.loop-line.invariant.read next c.in_default-read_line.ensures.bad c.read_line.auto.letters (c.read_line.ensures.read none);
      within = omega (arith, c.loop-line.invariant.within, shorter);
    }
