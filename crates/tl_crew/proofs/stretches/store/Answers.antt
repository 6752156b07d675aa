use Rattle.std.proofs.Common.{rules, ◌≡◌, ℕ, ◌+◌, ◌-◌, ◌<◌, ◌≤◌, ◌⊎◌, inl, inr, length, get_or, sym, subst, arith, ◌∙◌}
use Rattle.std.proofs.lemmas.Bool.{cases_lt}
use Rattle.std.proofs.lemmas.List.{get_or_default}
use Rattle.tl_courses.specs.Courses.{after, bits_of, steps_of}
use Rattle.tl_courses.proofs.Stated.{after-not_free}
use Rattle.tl_crew.proofs.Beside.{row-bound}
use Rattle.tl_crew.proofs.Stored.{AreStored, stored-copied, stored-next, stored-outside, stored-own, taken-bits}
use Rattle.tl_crew.proofs.stretches.store.Goals as goal

pub loop-j-init : goal.loop-j-init
loop-j-init g c =
    let course = g.S.Sweeping.course c.args.stretch.now in
    record {
      size = search rules;
      stored = stored-copied (λ hand. hand.share.first) (λ hand. hand.share.end) course c.args.hands.now course.start c.copy_rows.new.to (λ class row slot within inside. taken-bits course.layout c.layout-layout.result.now c.layout-layout.ensures course.start c.start.result.now c.start.ensures c.copy_rows.new.to c.copy_rows.ensures.taken class row slot within inside);
    }

pub store-requires-clause-share : goal.store-requires-clause-share
store-requires-clause-share g c = c.requires.shares.each _ _ c.loop-j-test.true

pub store-requires-clause-at : goal.store-requires-clause-at
store-requires-clause-at g c = (c.requires.at _ _ c.loop-j-test.true).at

pub store-requires-clause-done : goal.store-requires-clause-done
store-requires-clause-done g c = c.requires.done _ _ c.loop-j-test.true

pub loop-j-preserved : goal.loop-j-preserved
loop-j-preserved g c = record {
  size = c.store.ensures.size;
  stored =
      let hands = c.args.hands.now in
      let j = c.loop-j.j in
      let r = get_or hands j c.index-hands-j.result in
      stored-next (λ hand. hand.share.first) (λ hand. hand.share.end) (g.S.Sweeping.course c.args.stretch.now) hands j r
      (get_or_default hands j c.index-hands-j.result r c.loop-j-test.true) c.loop-j-test.true (g.S.Sweeping.course c.args.stretch.now).start c.loop-j.both c.store.new.both c.store.ensures.own c.store.ensures.outside c.loop-j.invariant.stored;
}

pub returns-clause-rows : goal.returns-clause-rows
returns-clause-rows g c class row slot within above below =
    let course = g.S.Sweeping.course c.args.stretch.now in
    let hands = c.args.hands.now in
    let at : c.loop-j.j ≡ length hands = omega (arith, c.loop-j-test.false, c.loop-j.auto.j-end) in
    let all = subst (λ (n : ℕ). AreStored (λ hand. hand.share.first) (λ hand. hand.share.end) course hands n course.start c.loop-j.both) at c.loop-j.invariant.stored in
    go at all (cases_lt 0 row) (cases_lt (row + 2) course.layout.height)
  where
    go : c.loop-j.j ≡ length c.args.hands.now
        → AreStored (λ hand. hand.share.first) (λ hand. hand.share.end) (g.S.Sweeping.course c.args.stretch.now) c.args.hands.now (length c.args.hands.now)
        (g.S.Sweeping.course c.args.stretch.now).start c.loop-j.both
        → (0 < row) ⊎ (row ≤ 0) → (row + 2 < (g.S.Sweeping.course c.args.stretch.now).layout.height) ⊎ ((g.S.Sweeping.course c.args.stretch.now).layout.height ≤ row + 2)
        → bits_of (g.S.Sweeping.course c.args.stretch.now).layout.height c.loop-j.both class row slot
        ≡ after (g.S.Sweeping.course c.args.stretch.now) (steps_of (g.S.Sweeping.course c.args.stretch.now)) class row slot
    go at all (inl h) (inl m) =
        let course = g.S.Sweeping.course c.args.stretch.now in
        stored-own (λ hand. hand.share.first) (λ hand. hand.share.end) course c.args.hands.now 1 (course.layout.height - 2) c.requires.shares.stacked course.start c.loop-j.both all
        (omega arith) class row slot within (omega (arith, h)) (omega (arith, m))
    go at all (inr h) m =
        let course = g.S.Sweeping.course c.args.stretch.now in
        stored-outside (λ hand. hand.share.first) (λ hand. hand.share.end) course c.args.hands.now 1 (course.layout.height - 2) c.requires.shares.stacked course.start c.loop-j.both all
        class row slot within below (inl (omega (arith, h)))
        ∙ sym (after-not_free course (steps_of course) row slot
        (λ j inside. row-bound (g.S.Sweeping.region c.args.stretch.now) (g.S.Sweeping.bits c.args.stretch.now) course c.requires.course row below (inl (omega (arith, h))) j slot inside) class)
    go at all (inl h) (inr m) =
        let course = g.S.Sweeping.course c.args.stretch.now in
        stored-outside (λ hand. hand.share.first) (λ hand. hand.share.end) course c.args.hands.now 1 (course.layout.height - 2) c.requires.shares.stacked course.start c.loop-j.both all
        class row slot within below (inr (omega (arith, m)))
        ∙ sym (after-not_free course (steps_of course) row slot
        (λ j inside. row-bound (g.S.Sweeping.region c.args.stretch.now) (g.S.Sweeping.bits c.args.stretch.now) course c.requires.course row below (inr m) j slot inside) class)
