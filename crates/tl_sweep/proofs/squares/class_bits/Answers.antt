use Rattle.tl_sweep.proofs.Bits.{class-even, class-odd}
use Rattle.tl_sweep.proofs.squares.class_bits.Goals as goal

pub returns-then-first-class : goal.returns-then-first-class
returns-then-first-class c j h = class-even c.args.first c.args.class j h c.if-first-class.true

pub returns-else-first-class : goal.returns-else-first-class
returns-else-first-class c j h = class-odd c.args.first c.args.class j h c.requires c.if-first-class.false
