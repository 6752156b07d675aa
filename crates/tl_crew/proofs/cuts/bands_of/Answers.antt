use Rattle.std.proofs.Common.{arith}
use Rattle.tl_crew.proofs.CutRows.{bands-pushed}
use Rattle.tl_crew.proofs.cuts.bands_of.Goals as goal

pub loop-j-preserved : goal.loop-j-preserved
loop-j-preserved c = record {
  count = omega (arith, c.loop-j.invariant.count, c.in_ok-push.ensures.len);
  bands =
      bands-pushed c.args.layout.now c.args.cut.now c.args.from c.loop-j.j c.loop-j.bands.items c.push.new.self.items c.in_ok-band_of.field-0 c.in_ok-push.ensures.items
      c.loop-j.invariant.count c.loop-j.invariant.bands c.in_ok-band_of.ensures;
}
