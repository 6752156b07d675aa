use Rattle.std.proofs.Common.{◌≡◌, arith, ap, length}
use Rattle.std.proofs.lemmas.List.{length_push}
use Rattle.tl_height.specs.HeightFunction.{HeightFunction}
use Rattle.tl_outcomes.specs.declared.drawer.Drawer.{Drawer}
use Rattle.tl_outcomes.proofs.ListLemmas.{all_pushed}
use Rattle.tl_outcomes.proofs.drawer.drawers.Goals as goal

pub loop-worker-preserved : goal.loop-worker-preserved
loop-worker-preserved c =
    let all = c.loop-worker.all.items in
    let more = c.push.new.self.items in
    let drawer = c.in_ok-new.field-0 in
    let low = c.args.low.now in
    let items = c.in_ok-push.ensures.items in (
      omega (arith, ap length items, length_push all drawer, c.loop-worker.invariant.0),
      all_pushed (λ (d : Drawer HeightFunction). d.sampler.region ≡ low.region) all more drawer items c.loop-worker.invariant.1 c.in_ok-new.ensures.region,
      all_pushed (λ (d : Drawer HeightFunction). d.bottom.now ≡ low) all more drawer items c.loop-worker.invariant.2 c.in_ok-new.ensures.bottom,
    )
