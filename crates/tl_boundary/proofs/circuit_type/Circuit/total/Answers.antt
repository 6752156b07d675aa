use Rattle.std.proofs.Common.{w64, ◌≡◌, map, ◌∙◌}
use mir.Val.{to_z, of_z}
use Rattle.std.proofs.lemmas.Grind.{common_steps}
use Rattle.std.proofs.Common.{arith}
use Rattle.tl_definitions.specs.Obstruction.{sign}
use Rattle.tl_lists.specs.Lists.{int_sum}
use Rattle.tl_closing.proofs.Stated.{total-colours, signs-total}
use Rattle.tl_boundary.proofs.circuit_type.Circuit.total.Goals as goal

signs : (c : goal.After-prefix) → to_z w64 (of_z w64 c.prefix.result) ≡ int_sum (map sign c.args.self.now)
signs c = grind (arith, common_steps)

pub returns-clause-total : goal.returns-clause-total
returns-clause-total c R placed circuit = signs c ∙ signs-total R c.args.self.now placed circuit

pub returns-clause-colours : goal.returns-clause-colours
returns-clause-colours c R placed circuit = signs c ∙ signs-total R c.args.self.now placed circuit ∙ total-colours R placed
