use Rattle.std.proofs.Common.{◌∙◌}
use Rattle.tl_lines.proofs.EmptyLines.{left_at, left_none, from_line-drop}
use Rattle.tl_lines.proofs.skip_empty_lines.Goals as goal

pub returns-then-not-is_in_line_end-clause-section : goal.returns-then-not-is_in_line_end-clause-section
returns-then-not-is_in_line_end-clause-section c =
    (left_at c.args.bytes.now c.loop-i.i _ c.loop-i-test.true c.loop-i.invariant c.is_in_line_end.ensures c.if-not-is_in_line_end.true).section

pub returns-then-not-is_in_line_end-clause-rest : goal.returns-then-not-is_in_line_end-clause-rest
returns-then-not-is_in_line_end-clause-rest c =
    (left_at c.args.bytes.now c.loop-i.i _ c.loop-i-test.true c.loop-i.invariant c.is_in_line_end.ensures c.if-not-is_in_line_end.true).rest

pub loop-i-preserved : goal.loop-i-preserved
loop-i-preserved c =
    from_line-drop c.args.bytes.now c.loop-i.i _ c.loop-i-test.true c.is_in_line_end.ensures c.if-not-is_in_line_end.false ∙ c.loop-i.invariant

pub returns-clause-section : goal.returns-clause-section
returns-clause-section c = (left_none c.args.bytes.now c.loop-i.i c.loop-i-test.false c.loop-i.invariant).section

pub returns-clause-rest : goal.returns-clause-rest
returns-clause-rest c = (left_none c.args.bytes.now c.loop-i.i c.loop-i-test.false c.loop-i.invariant).rest
