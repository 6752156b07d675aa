use Rattle.std.proofs.Common.{◌∙◌, get_or, pos, w32, SFits, rules, to_z, of_z}
use Rattle.tl_lanes.specs.Lanes.{lesser}
use Rattle.tl_lanes.proofs.Lanes.{lesser-passed}
use Rattle.tl_lanes.proofs.Rows.{combined-next, combined-all}
use Rattle.tl_lanes.proofs.order.least_of_rest.Goals as goal

pub loop-i-preserved : goal.loop-i-preserved
loop-i-preserved c =
    let x = get_or c.loop-i.a c.loop-i.i (pos 0) in
    let y = get_or c.args.b.now c.loop-i.i (pos 0) in
    let z = c.min.result in
    let x_fits : SFits w32 x = search rules in
    let y_fits : SFits w32 y = search rules in
    combined-next lesser c.loop-i.i c.args.a.now c.args.b.now c.loop-i.a (pos 0) (to_z w32 (of_z w32 z)) c.requires c.loop-i-test.true c.loop-i.invariant
    (lesser-passed x y z x_fits y_fits c.min.ensures.value)

pub returns : goal.returns
returns c = c.loop-i.invariant ∙ combined-all lesser c.loop-i.i c.args.a.now c.args.b.now c.requires c.loop-i-test.false
