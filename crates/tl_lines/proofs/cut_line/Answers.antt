use Rattle.tl_lines.proofs.Cut.{first_line-cut, first_line-whole}
use Rattle.tl_lines.proofs.cut_line.Goals as goal

pub returns-in-Some-clause-first : goal.returns-in-Some-clause-first
returns-in-Some-clause-first c = first_line-cut c.args.bytes.now c.without_return.result.now c.in-Some.end c.in-Some.ensures c.without_return.ensures.text

pub returns-in-None-clause-first : goal.returns-in-None-clause-first
returns-in-None-clause-first c = first_line-whole c.args.bytes.now c.without_return-in-None.result.now c.requires c.in-None.ensures c.without_return-in-None.ensures.text
