use Rattle.std.proofs.Common.{◌≡◌, ◌∙◌, ap, cond, get_or, pos, length, arith}
use Rattle.tl_lanes.proofs.Lanes.{four_bits, four_bits-bit, get_or-by_tests}
use Rattle.tl_lanes.proofs.step.by_bits.Goals as goal

pub returns-clause-each : goal.returns-clause-each
returns-clause-each c j within =
    let bits = c.args.bits in
    let low = c.args.low in
    let high = c.args.high in
    get_or-by_tests (four_bits bits) high low j (omega arith) (omega arith) within c.requires.high c.requires.low
    ∙ ap (λ t. cond t (get_or high j (pos 0)) (get_or low j (pos 0))) (four_bits-bit bits j within)
