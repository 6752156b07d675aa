use Rattle.std.proofs.Common.{◌∙◌, ◌+◌, sym}
use Rattle.tl_sweep.proofs.Rows.{fits-raised, fits-lowered, row-stepped}
use Rattle.tl_sweep.proofs.squares.step_row.Goals as goal

pub lanes_step-requires-clause-from_fits : goal.lanes_step-requires-clause-from_fits
lanes_step-requires-clause-from_fits c = fits-raised c.args.numbers.now _ _ _ c.requires.small c.beside-beside.ensures.from

pub lanes_step-requires-clause-from_other_fits : goal.lanes_step-requires-clause-from_other_fits
lanes_step-requires-clause-from_other_fits c = fits-raised c.args.numbers.now _ _ _ c.requires.small c.beside-beside.ensures.from_other

pub lanes_step-requires-clause-to_fits : goal.lanes_step-requires-clause-to_fits
lanes_step-requires-clause-to_fits c = fits-lowered c.args.numbers.now _ _ _ c.requires.small c.beside-beside.ensures.to

pub lanes_step-requires-clause-to_other_fits : goal.lanes_step-requires-clause-to_other_fits
lanes_step-requires-clause-to_other_fits c = fits-lowered c.args.numbers.now _ _ _ c.requires.small c.beside-beside.ensures.to_other

pub returns : goal.returns
returns c j h = c.lanes_step.ensures.each j h ∙ row-stepped c.args.numbers.now c.args.width c.args.start c.args.is_even c.args.bits c.args.class j _ h _ _ _ _ c.beside-beside.ensures.from c.beside-beside.ensures.from_other c.beside-beside.ensures.to c.beside-beside.ensures.to_other c.requires.above
