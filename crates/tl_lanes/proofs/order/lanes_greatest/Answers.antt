use Rattle.std.proofs.Common.{◌+◌, ◌-◌, length, ◌∙◌, refl, arith}
use Rattle.tl_lanes.specs.Lanes.{greater}
use Rattle.tl_lanes.proofs.Rows.{combined-part, combined-all}
use Rattle.tl_lanes.proofs.order.lanes_greatest.Goals as goal

pub vectors-preserved : goal.vectors-preserved
vectors-preserved c =
    let i = c.vectors.done in
    record {
      within = omega arith;
      so_far = combined-part greater i (i + 4 - i) (i + 4 - i) (i + 4) c.args.a.now c.args.b.now c.vectors.a c.greatest_of_block.new.a refl (omega arith) c.requires c.vectors.invariant.so_far c.greatest_of_block.ensures;
    }

pub returns : goal.returns
returns c =
    let i = c.vectors.done in
    let n = length c.vectors.a in
    combined-part greater i (n - i) (length c.args.b.now - i) n c.args.a.now c.args.b.now c.vectors.a c.greatest_of_rest.new.a (omega arith) (omega arith) c.requires c.vectors.invariant.so_far c.greatest_of_rest.ensures
    ∙ combined-all greater n c.args.a.now c.args.b.now c.requires (omega arith)
