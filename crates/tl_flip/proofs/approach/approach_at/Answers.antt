use Rattle.std.proofs.Common.{◌≡◌, ◌+◌, [], ◌∷◌, get_or, length, sym, ◌∙◌, ap, List, arith, rules}
use Rattle.std.specs.List.{list_all}
use Rattle.std.proofs.lemmas.List.{length-append}
use Rattle.tl_definitions.specs.declared.Corner.{Corner}
use Rattle.tl_definitions.specs.Lattice.{rise}
use Rattle.tl_definitions.specs.Region.{is_inner}
use Rattle.tl_closing.proofs.Stated.{inner-of_region}
use Rattle.tl_lawful.specs.HeightGap.{height_gap}
use Rattle.tl_flip.specs.Approach.{IsApproach, counted}
use Rattle.tl_flip.proofs.Approaches.{approach-more}
use Rattle.tl_flip.proofs.Turns.{advanced-less, gap-falls, pushed-less, true-lt}
use Rattle.tl_flip.proofs.Waiting.{all-last, all-more, first-more}
use Rattle.tl_flip.proofs.approach.approach_at.Goals as goal
use Rattle.tl_flip.proofs.approach.approach_at.Goals.{In_ok-advance}

pub is_short-requires-clause-corner : goal.is_short-requires-clause-corner
is_short-requires-clause-corner c = inner-of_region c.args.target.now.region c.loop-corner.corner c.loop-corner.invariant.inner

pub loop-corner-preserved-in-Some : goal.loop-corner-preserved-in-Some
loop-corner-preserved-in-Some c =
    let R = c.args.target.now.region in
    let is = c.in-Some.ensures.items in
    let all = all-last (is_inner R) c.pop.new.self.items c.in-Some.next (ap (λ (vs : List Corner). list_all (is_inner R) vs) (sym is) ∙ c.loop-corner.invariant.waiting) in
    record {
      region = c.loop-corner.invariant.region;
      inner = all.1;
      waiting = all.0;
      first = sym (first-more c.pop.new.self.items c.in-Some.next c.loop-corner.corner) ∙ ap (λ (vs : List Corner). get_or vs 0 c.loop-corner.corner) (sym is) ∙ c.loop-corner.invariant.first;
      approach = c.loop-corner.invariant.approach;
    }

pub loop-corner-smaller-in-Some-blocker : goal.loop-corner-smaller-in-Some-blocker
loop-corner-smaller-in-Some-blocker c =
    let R = c.args.target.now.region in
    let here = c.loop-corner.here.numbers in
    let target = c.args.target.now.numbers in
    let blocks = c.in-Some-blocker.ensures in
    pushed-less c.args.way R here target c.loop-corner.corner c.in-Some-blocker.first (length c.loop-corner.waiting.items) (length c.push.new.self.items)
    c.requires.two.accepted c.loop-corner.invariant.approach.lawful
    (inner-of_region R c.loop-corner.corner c.loop-corner.invariant.inner) (inner-of_region R c.in-Some-blocker.first blocks.0)
    (sym c.is_short.ensures ∙ c.if-not-is_short.false)
    (true-lt (counted c.args.way R here c.in-Some-blocker.first) (counted c.args.way R target c.in-Some-blocker.first) blocks.2)
    blocks.1
    (ap (λ (vs : List Corner). length vs) c.in_ok-push.ensures.items ∙ length-append c.loop-corner.waiting.items (c.loop-corner.corner ∷ []))

pub loop-corner-preserved-in-Some-blocker : goal.loop-corner-preserved-in-Some-blocker
loop-corner-preserved-in-Some-blocker c =
    let R = c.args.target.now.region in
    let is = c.in_ok-push.ensures.items in
    let blocks = c.in-Some-blocker.ensures in
    record {
      region = c.loop-corner.invariant.region;
      inner = blocks.0;
      waiting = ap (λ (vs : List Corner). list_all (is_inner R) vs) is ∙ all-more (is_inner R) c.loop-corner.waiting.items c.loop-corner.corner c.loop-corner.invariant.waiting c.loop-corner.invariant.inner;
      first = ap (λ (vs : List Corner). get_or vs 0 c.in-Some-blocker.first) is ∙ first-more c.loop-corner.waiting.items c.loop-corner.corner c.in-Some-blocker.first ∙ c.loop-corner.invariant.first;
      approach = c.loop-corner.invariant.approach;
    }

-- how the gap is less
nearer : (c : In_ok-advance) → height_gap c.advance.new.here.numbers c.args.target.now.numbers + rise c.args.target.now.region.kind ≡ height_gap c.loop-corner.here.numbers c.args.target.now.numbers
nearer c =
    gap-falls c.args.target.now.region.kind (height_gap c.loop-corner.here.numbers c.args.target.now.numbers) (height_gap c.advance.new.here.numbers c.args.target.now.numbers)
    (length c.loop-corner.path.items) (length c.advance.new.path.items) c.in_ok-advance.ensures.approach.gap c.in_ok-advance.ensures.one_more

farther : (c : In_ok-advance)
    → IsApproach c.args.way c.args.target.now.region c.args.target.now.numbers c.args.here.now.numbers c.advance.new.here.numbers c.args.path.now.items c.advance.new.path.items
farther c =
    approach-more c.args.way c.args.target.now.region c.args.target.now.numbers c.args.here.now.numbers c.loop-corner.here.numbers c.advance.new.here.numbers c.args.path.now.items c.loop-corner.path.items c.advance.new.path.items
    c.loop-corner.invariant.approach c.in_ok-advance.ensures.approach

pub loop-corner-smaller-in-Some-pop : goal.loop-corner-smaller-in-Some-pop
loop-corner-smaller-in-Some-pop c =
    let n : length c.loop-corner.waiting.items ≡ length c.pop-in_default.new.self.items + 1 =
    ap (λ (vs : List Corner). length vs) c.in-Some-pop.ensures.items ∙ length-append c.pop-in_default.new.self.items (c.in-Some-pop.next ∷ []) in
    advanced-less c.args.way c.args.target.now.region c.loop-corner.here.numbers c.advance.new.here.numbers c.args.target.now.numbers c.loop-corner.corner c.in-Some-pop.next
    (length c.loop-corner.waiting.items) (length c.pop-in_default.new.self.items) (nearer (goal.at.loop-corner-smaller-in-Some-pop c).In_ok-advance) (omega (arith, n))

pub loop-corner-preserved-in-Some-pop : goal.loop-corner-preserved-in-Some-pop
loop-corner-preserved-in-Some-pop c =
    let R = c.args.target.now.region in
    let is = c.in-Some-pop.ensures.items in
    let all = all-last (is_inner R) c.pop-in_default.new.self.items c.in-Some-pop.next (ap (λ (vs : List Corner). list_all (is_inner R) vs) (sym is) ∙ c.loop-corner.invariant.waiting) in
    record {
      region = c.in_ok-advance.ensures.region;
      inner = all.1;
      waiting = all.0;
      first = sym (first-more c.pop-in_default.new.self.items c.in-Some-pop.next c.loop-corner.corner) ∙ ap (λ (vs : List Corner). get_or vs 0 c.loop-corner.corner) (sym is) ∙ c.loop-corner.invariant.first;
      approach = farther (goal.at.loop-corner-preserved-in-Some-pop c).In_ok-advance;
    }

pub loop-corner-smaller : goal.loop-corner-smaller
loop-corner-smaller c =
    let same : c.pop-in_default.new.self.items ≡ c.loop-corner.waiting.items = search rules in
    advanced-less c.args.way c.args.target.now.region c.loop-corner.here.numbers c.advance.new.here.numbers c.args.target.now.numbers c.loop-corner.corner c.loop-corner.corner
    (length c.loop-corner.waiting.items) (length c.pop-in_default.new.self.items) (nearer (goal.at.loop-corner-smaller c).In_ok-advance)
    (let n : length c.pop-in_default.new.self.items ≡ length c.loop-corner.waiting.items = ap (λ (vs : List Corner). length vs) same in omega (arith, n))

pub loop-corner-preserved : goal.loop-corner-preserved
loop-corner-preserved c =
    let R = c.args.target.now.region in
    let same : c.pop-in_default.new.self.items ≡ c.loop-corner.waiting.items = search rules in
    record {
      region = c.in_ok-advance.ensures.region;
      inner = c.loop-corner.invariant.inner;
      waiting = ap (λ (vs : List Corner). list_all (is_inner R) vs) same ∙ c.loop-corner.invariant.waiting;
      first = ap (λ (vs : List Corner). get_or vs 0 c.loop-corner.corner) same ∙ c.loop-corner.invariant.first;
      approach = farther (goal.at.loop-corner-preserved c).In_ok-advance;
    }
