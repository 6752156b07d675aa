use Rattle.std.proofs.Common.{◌≡◌, ℕ, ◌+◌, ◌-◌, ◌<◌, length, get_or, set, sym, ap, subst, arith, ◌∙◌, Some}
use Rattle.std.proofs.lemmas.List.{get_or-set_other, get_or_default}
use Rattle.std.proofs.lemmas.List.Elements.{All-set}
use Rattle.tl_band.specs.declared.band.Band.{Band}
use Rattle.tl_band.specs.Bands.{AreSameRows, IsBandAt, IsPlacedIn}
use Rattle.tl_band.specs.Edges.{IsSideAt}
use Rattle.tl_crew.proofs.Begun.{placed-at, put-at, side-below}
use Rattle.tl_crew.proofs.Same.{band-put, bands-more}
use Rattle.tl_crew.proofs.share.begin_upper.Goals as goal

pub begin-requires-clause-upper : goal.begin-requires-clause-upper
begin-requires-clause-upper g c = c.loop-j.invariant.upper _

pub loop-j-preserved : goal.loop-j-preserved
loop-j-preserved g c =
    let course = g.S.Sweeping.course c.args.stretch.now in
    let (first, end, are) = c.requires.bands in
    let bands = c.loop-j.bands in
    let j = c.loop-j.j in
    let new = c.begin.new.self in
    let kept = c.loop-j.invariant in
    let within : j < length bands = omega (arith, c.loop-j-test.true, kept.rows.count) in
    record {
      rows = bands-more c.args.bands.now bands (set bands j new) kept.rows
          (band-put bands j new within
          (λ d. subst (λ (b : Band). AreSameRows b new) (get_or_default bands j c.index-bands-j-in-loop-j.result d within) c.begin.ensures.rows));
      placed = All-set (IsPlacedIn course.layout) bands j new (placed-at course new c.begin.ensures.at) kept.placed;
      at = put-at (IsBandAt course) bands j new within c.begin.ensures.at kept.at;
      upper = λ d.
          let further : j + 1 < length bands = omega (arith, c.loop-j-test.true, kept.rows.count) in
          let here = get_or-set_other bands j (j + 1) new d (λ e. omega (arith, e)) in
          let inside : j + 1 < length c.args.bands.now = omega (arith, further, kept.rows.count) in
          let own : (get_or bands (j + 1) d).upper.own ≡ (get_or bands j d).lower.beside =
          (kept.rows.each (j + 1) d inside).upper_own ∙ (are.stacked.next j d inside ∙ sym ((kept.rows.each j d (omega (arith, inside))).lower_beside)) in
          let this = ap (λ (b : Band). b.lower.own) (get_or_default bands j d c.index-bands-j.result within) in
          let one = kept.placed j d within in
          let next = kept.placed (j + 1) d further in
          subst (λ (b : Band). IsSideAt course b.upper.own b.upper.beside 0 (Some c.in_ok-lower.next)) (sym here)
          (side-below course (get_or bands j c.index-bands-j.result).lower.own (get_or bands (j + 1) d).upper.own (get_or bands (j + 1) d).upper.beside c.in_ok-lower.next
          c.in_ok-lower.ensures.below (omega (arith, own, this, one.below_last)) (omega (arith, own, this, one.below_last, next.above_first)));
    }

pub returns-clause-upper : goal.returns-clause-upper
returns-clause-upper g c =
    let course = g.S.Sweeping.course c.args.stretch.now in
    let bands = c.loop-j.bands in
    let at : c.loop-j.j ≡ length bands - 1 = omega (arith, c.loop-j-test.false, c.loop-j.auto.j-end, c.loop-j.invariant.rows.count) in
    λ d. subst (λ (n : ℕ). IsSideAt course (get_or bands n d).upper.own (get_or bands n d).upper.beside 0 c.loop-j.upper) at (c.loop-j.invariant.upper d)
