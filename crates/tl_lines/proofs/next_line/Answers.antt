use Rattle.tl_lines.proofs.Cut.{section-ends, section-line, after_line-first}
use Rattle.tl_lines.proofs.next_line.Goals as goal

pub returns-then-is_empty-2-clause-next : goal.returns-then-is_empty-2-clause-next
returns-then-is_empty-2-clause-next c = section-ends c.args.bytes.now _ c.cut_line.result.1.now _ c.cut_line.ensures.first c.is_empty-2.ensures c.if-is_empty-2.true

pub returns-then-is_empty-2-clause-rest : goal.returns-then-is_empty-2-clause-rest
returns-then-is_empty-2-clause-rest c = after_line-first c.args.bytes.now _ c.cut_line.result.1.now c.cut_line.ensures.first

pub returns-else-is_empty-2-clause-next : goal.returns-else-is_empty-2-clause-next
returns-else-is_empty-2-clause-next c = section-line c.args.bytes.now c.cut_line.result.0.now c.cut_line.result.1.now _ c.cut_line.ensures.first c.is_empty-2.ensures c.if-is_empty-2.false

pub returns-else-is_empty-2-clause-rest : goal.returns-else-is_empty-2-clause-rest
returns-else-is_empty-2-clause-rest c = after_line-first c.args.bytes.now _ c.cut_line.result.1.now c.cut_line.ensures.first
