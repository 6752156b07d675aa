use Rattle.std.proofs.Common.{◌<◌, length, ap, arith, ◌∙◌}
use Rattle.std.proofs.lemmas.List.{get_or_default}
use Rattle.std.proofs.lemmas.List.Elements.{All-set}
use Rattle.std.proofs.Math.ListN.{length-set}
use Rattle.tl_crew.specs.Hands.{IsHandAt}
use Rattle.tl_crew.proofs.Stacked.{shares-put}
use Rattle.tl_crew.proofs.apart.pass_all.Goals as goal

pub loop-j-preserved : goal.loop-j-preserved
loop-j-preserved g c =
    let course = g.S.Sweeping.course c.args.stretch.now in
    let hands = c.loop-j.hands in
    let j = c.loop-j.j in
    let new = c.pass.new.this in
    let kept = c.loop-j.invariant in
    let within : j < length hands = omega (arith, c.loop-j-test.true, kept.count) in
    record {
      at = All-set (λ hand. IsHandAt (g.S.Sweeping.region c.args.stretch.now) (g.S.Sweeping.bits c.args.stretch.now) course
          hand.coins.pieces (g.B.Bits.words hand.coins.kept.bits) (g.B.Bits.word_at hand.coins.kept.bits) hand.share.bands.items) hands j new c.pass.ensures.at kept.at;
      shares = shares-put (λ hand. hand.share) course.layout hands j new kept.shares within
          (λ d. c.pass.ensures.first ∙ ap (λ hand. hand.share.first) (get_or_default hands j c.index-hands-j.result d within))
          (λ d. c.pass.ensures.end ∙ ap (λ hand. hand.share.end) (get_or_default hands j c.index-hands-j.result d within)) c.pass.ensures.share;
      count = length-set hands j new ∙ kept.count;
    }
