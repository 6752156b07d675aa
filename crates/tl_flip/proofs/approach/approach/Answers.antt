use Rattle.std.proofs.Common.{◌≡◌, Some, sym, ap, subst, arith, length}
use Rattle.std.specs.Prelude.{slice_get}
use Rattle.tl_definitions.specs.Region.{Region, inner_corners}
use Rattle.tl_definitions.proofs.InnerNumbers.{inner-at}
use Rattle.tl_flip.proofs.Approaches.{approach-more}
use Rattle.tl_flip.proofs.Reached.{reached-all, reached-more}
use Rattle.tl_flip.proofs.approach.approach.Goals as goal
use Rattle.tl_flip.proofs.approach.approach.Goals.{After-inner}

here : (c : After-inner) → slice_get (inner_corners c.args.target.now.region) c.loop-i.i ≡ Some c.inner.result
here c = subst (λ (R : Region). slice_get (inner_corners R) c.loop-i.i ≡ Some c.inner.result) c.region-region.ensures.region c.inner.ensures

pub approach_at-requires-clause-inner : goal.approach_at-requires-clause-inner
approach_at-requires-clause-inner c =
    inner-at c.args.target.now.region c.inner.result c.loop-i.i (here (goal.at.approach_at-requires-clause-inner c).After-inner)

pub loop-i-preserved : goal.loop-i-preserved
loop-i-preserved c =
    let R = c.args.target.now.region in
    let target = c.args.target.now.numbers in
    record {
      region = c.in_ok-approach_at.ensures.region;
      none_waits = c.in_ok-approach_at.ensures.none_waits;
      approach =
          approach-more c.args.way R target c.args.here.now.numbers c.loop-i.here.numbers c.approach_at.new.here.numbers c.args.path.now.items c.loop-i.path.items c.approach_at.new.path.items
          c.loop-i.invariant.approach c.in_ok-approach_at.ensures.approach;
      reached =
          reached-more c.args.way R target c.loop-i.here.numbers c.approach_at.new.here.numbers c.loop-i.i c.inner.result c.loop-i.invariant.reached
          (here (goal.at.loop-i-preserved c).After-inner) c.in_ok-approach_at.ensures.approach.onward c.in_ok-approach_at.ensures.reached;
    }

pub returns-clause-reached : goal.returns-clause-reached
returns-clause-reached c =
    let R = c.args.target.now.region in
    let all = ap (λ (S : Region). length (inner_corners S)) (sym c.region-region.ensures.region) in
    let end = c.inner_count-i-end.ensures.count in
    reached-all c.args.way R c.args.target.now.numbers c.loop-i.here.numbers
    (record {
      accepted = c.region-region.ensures.accepted;
      first = c.loop-i.invariant.approach.lawful;
      second = c.region-region.ensures.lawful;
    })
    (λ k v l e. c.loop-i.invariant.reached k v (omega (arith, l, all, end)) e)
