use Rattle.std.proofs.Common.{arith}
use Rattle.std.proofs.lemmas.Int.{ints}
use Rattle.tl_boundary.proofs.Prefixes.{prefix-small}
use Rattle.tl_boundary.proofs.circuit_type.Circuit.rise_between.Goals as goal

pub overflow_sub-result : goal.overflow_sub-result
overflow_sub-result c =
    let k = prefix-small c.args.self.now c.args.k in
    let l = prefix-small c.args.self.now c.args.l in
    omega (arith, ints, k.0, k.1, l.0, l.1)

pub returns : goal.returns
returns c =
    let k = prefix-small c.args.self.now c.args.k in
    let l = prefix-small c.args.self.now c.args.l in
    omega (arith, ints, k.0, k.1, l.0, l.1)
