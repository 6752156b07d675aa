use Rattle.std.proofs.Common.{ap, ◌∙◌}
use Rattle.tl_height.specs.HeightFunction.{HeightFunction}
use Rattle.tl_flip.proofs.Walks.{goes_on, stops}
use Rattle.tl_flip.proofs.flipping.walk.Goals as goal

pub returns-then-not-flip_at-clause-walk : goal.returns-then-not-flip_at-clause-walk
returns-then-not-flip_at-clause-walk c A tiled =
    stops c.args.heights.now.region c.loop-k.heights.region c.loop-k.heights.numbers c.flip_at.new.heights.numbers A c.args.corners.now c.loop-k.k _ c.flip_at.result
    c.loop-k-test.true c.loop-k.invariant.region (c.loop-k.invariant.made A tiled) c.flip_at.ensures.lawful
    c.if-not-flip_at.true (ap (λ (f : HeightFunction). f.numbers) (c.flip_at.ensures.stays c.if-not-flip_at.true))

pub loop-k-preserved : goal.loop-k-preserved
loop-k-preserved c = record {
  region = c.flip_at.ensures.region ∙ c.loop-k.invariant.region;
  made = λ A tiled.
      goes_on c.args.heights.now.region c.loop-k.heights.region c.loop-k.heights.numbers c.flip_at.new.heights.numbers A c.args.corners.now c.loop-k.k _ c.flip_at.result
      c.loop-k-test.true c.loop-k.invariant.region (c.loop-k.invariant.made A tiled) c.flip_at.ensures.lawful
      c.if-not-flip_at.false (c.flip_at.ensures.flipped c.if-not-flip_at.false);
}
