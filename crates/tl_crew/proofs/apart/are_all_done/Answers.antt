use Rattle.std.proofs.Common.{◌≡◌, All, List, refl, arith, subst}
use Rattle.tl_courses.specs.Courses.{steps_of}
use Rattle.tl_band.specs.declared.band.Band.{Band}
use Rattle.tl_crew.proofs.Begun.{before-more}
use Rattle.tl_crew.proofs.apart.are_all_done.Goals as goal

pub loop-j-preserved : goal.loop-j-preserved
loop-j-preserved g c =
    let all = steps_of (g.S.Sweeping.course c.args.stretch.now) in
    before-more (λ hand. All (λ band. band.done ≡ all) hand.share.bands.items) c.args.hands.now c.loop-j.j c.index-hands-j.result
    (omega (arith, c.loop-j-test.true))
    (subst (λ (bands : List Band). All (λ band. band.done ≡ all) bands) c.deref.ensures.value (c.if-not-are_done.ensures refl)) c.loop-j.invariant

pub returns : goal.returns
returns g c is k d within = c.loop-j.invariant k d (omega (arith, within, c.loop-j-test.false, c.loop-j.auto.j-end))
