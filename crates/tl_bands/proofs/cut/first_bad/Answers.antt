use Rattle.std.proofs.Common.{arith, sym, ◌∙◌}
use Rattle.tl_bands.proofs.Firsts.{cut_of, number_below, has_entry}
use Rattle.tl_bands.proofs.cut.first_bad.Goals as goal

pub overflow_cast-result : goal.overflow_cast-result
overflow_cast-result c = let few = number_below c.args.rows c.args.firsts.now c.loop-number.number c.loop-number.invariant in omega (arith, few, c.ranges.rows)

pub returns : goal.returns
returns c =
    let past = c.loop-number-test.false in
    cut_of c.args.rows c.args.firsts.now (has_entry c.args.firsts.now (sym c.is_empty.ensures ∙ c.if-is_empty.false)) (λ k h. c.loop-number.invariant k (omega (arith, h, past)))
