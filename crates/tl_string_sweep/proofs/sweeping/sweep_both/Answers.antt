use Rattle.std.proofs.Common.{arith}
use Rattle.tl_string_sweep.proofs.AllClasses.{none-swept}
use Rattle.tl_string_sweep.proofs.sweeping.sweep_both.Goals as goal

pub returns-else-coins-layout-clause-swept : goal.returns-else-coins-layout-clause-swept
returns-else-coins-layout-clause-swept c R bits low high accepted layout slots has ends =
    none-swept R c.args.layout.now c.args.both.now bits low high accepted layout (omega arith) ends
