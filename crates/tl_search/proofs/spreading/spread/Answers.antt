use Rattle.std.proofs.Common.{◌≡◌, ◌<◌, ◌^◌, ℕ, ◌+◌, ◌-◌, length, List, sym, ap, subst, arith, ℤ, pos, neg_ℤ, w32, rules, ◌+ℤ◌, ◌≤ℤ◌, ◌∙◌, IsTrue}
use Rattle.std.specs.Vec.{with_items}
use mir.Val.{SFits, to_z, of_z}
use Rattle.std.proofs.lemmas.Int.{ints}
use Rattle.std.proofs.lemmas.List.{get_or_read, with_items_is}
use Rattle.tl_search.specs.Searching.{number_of, IsStopped, IsTraced}
use Rattle.tl_search.proofs.Numbers.{unreached}
use Rattle.tl_search.proofs.Paths.{In-has_step}
use Rattle.tl_search.proofs.Search.{IsSpreading, IsTurn, first-search}
use Rattle.tl_search.proofs.Giving.{IsAfter, after, smaller, turn-end}
use Rattle.tl_search.proofs.Turns.{turn-taken, next-fits, given-of, stopped-of}
use Rattle.tl_search.proofs.Ends.{spread-ends}
use Rattle.tl_search.proofs.Undercuts.{stop-step, low, stop-undercut}
use Rattle.tl_search.proofs.spreading.spread.Given
use Rattle.tl_search.proofs.spreading.spread.Goals as goal
use Rattle.tl_search.proofs.spreading.spread.Goals.{In-Some, In_ok-end, In-Some-2}

pub loop-place-init : goal.loop-place-init
loop-place-init g c =
    let M = g.G.Graph.meaning c.args.graph.now in
    subst (λ (queue : List ℕ). IsSpreading M c.args.sources.now c.in_ok-numbers.numbers.items queue 0) (sym c.new-queue.ensures.items)
    (first-search M c.args.sources.now c.requires.is_graph c.requires.sources c.in_ok-numbers.numbers.items c.in_ok-numbers.ensures)

turn-of : (g : Given.Over) (c : In-Some g)
    → IsTurn (g.G.Graph.meaning c.args.graph.now) c.args.sources.now c.loop-place.numbers.items c.take.new.queue.items c.take.new.next c.in-Some.place (number_of c.loop-place.numbers.items c.in-Some.place)
turn-of g c =
    turn-taken (g.G.Graph.meaning c.args.graph.now) c.args.sources.now c.requires.is_graph c.requires.sources
    c.loop-place.numbers.items c.as_slice.result.now c.loop-place.queue.items c.loop-place.next c.take.new.queue.items c.take.new.next c.in-Some.place
    c.as_slice.ensures.value c.loop-place.invariant c.in-Some.ensures

within : (g : Given.Over) (c : In-Some g) → c.in-Some.place < length c.loop-place.numbers.items
within g c = subst (λ (n : ℕ). c.in-Some.place < n) (sym c.loop-place.invariant.search.known.count) (turn-of g c).inside

pub index-requires : goal.index-requires
index-requires g c = omega (arith, within g (goal.at.index-requires g c).In-Some, c.loop-place.numbers.ok.0)

pub overflow_add-number : goal.overflow_add-number
overflow_add-number g c =
    let s = (goal.at.overflow_add-number g c).In-Some in
    let fits : SFits w32 c.index.result.now = search rules in
    let number = get_or_read c.loop-place.numbers.items c.in-Some.place c.index.result.now (within g s) c.index.ensures (pos 0) in
    let bounds = next-fits (g.G.Graph.meaning c.args.graph.now) c.args.sources.now c.requires.is_graph c.requires.sources c.loop-place.numbers.items c.take.new.queue.items c.take.new.next c.in-Some.place (turn-of g s) in
    omega (arith, ints, fits, number, bounds.0, bounds.1)

-- the number that is passed on
next-number : (g : Given.Over) (c : In_ok-end g) → IsTurn (g.G.Graph.meaning c.args.graph.now) c.args.sources.now c.loop-place.numbers.items c.take.new.queue.items c.take.new.next c.in-Some.place (number_of c.loop-place.numbers.items c.in-Some.place)
    → to_z w32 (of_z w32 (to_z w32 (of_z w32 c.index.result.now) +ℤ pos 1)) ≡ number_of c.loop-place.numbers.items c.in-Some.place +ℤ pos 1
next-number g c t =
    let M = g.G.Graph.meaning c.args.graph.now in
    let fits : SFits w32 c.index.result.now = search rules in
    let inside = subst (λ (n : ℕ). c.in-Some.place < n) (sym c.loop-place.invariant.search.known.count) t.inside in
    let number = get_or_read c.loop-place.numbers.items c.in-Some.place c.index.result.now inside c.index.ensures (pos 0) in
    let bounds = next-fits M c.args.sources.now c.requires.is_graph c.requires.sources c.loop-place.numbers.items c.take.new.queue.items c.take.new.next c.in-Some.place t in
    omega (arith, ints, fits, number, bounds.0, bounds.1)

-- the numbers as they are written back
written-back : (g : Given.Over) (c : In_ok-end g) → (with_items c.loop-place.numbers c.pass_on.new.numbers).items ≡ c.pass_on.new.numbers
written-back g c =
    with_items_is c.loop-place.numbers c.pass_on.new.numbers (c.pass_on.auto.numbers ∙ (ap length c.as_mut_slice.ensures.value ∙ sym c.loop-place.numbers.ok.0))

-- ---- a turn that is stopped

stopped : (g : Given.Over) (c : In-Some-2 g)
    → to_z w32 (of_z w32 (to_z w32 (of_z w32 c.index.result.now) +ℤ pos 1)) ≡ number_of c.loop-place.numbers.items c.in-Some.place +ℤ pos 1
    → IsStopped (number_of c.loop-place.numbers.items c.in-Some.place +ℤ pos 1) ((g.G.Graph.meaning c.args.graph.now).steps c.in-Some.place) c.in-Some-2.end
    c.loop-place.numbers.items c.take.new.queue.items c.pass_on.new.numbers c.pass_on.new.queue.items
stopped g c number =
    stopped-of (to_z w32 (of_z w32 (to_z w32 (of_z w32 c.index.result.now) +ℤ pos 1))) (number_of c.loop-place.numbers.items c.in-Some.place)
    ((g.G.Graph.meaning c.args.graph.now).steps c.in-Some.place) c.loop-place.numbers.items c.as_mut_slice.result.now c.take.new.queue.items c.pass_on.new.numbers c.pass_on.new.queue.items
    c.in_ok-end.field-0 c.in-Some-2.end number c.as_mut_slice.ensures.value c.in-Some-2.is c.in_ok-end.ensures

pub path_to-requires-clause-is_place : goal.path_to-requires-clause-is_place
path_to-requires-clause-is_place g c =
    let t = turn-of g (goal.at.path_to-requires-clause-is_place g c).In-Some in
    (t.search.known.known c.in-Some.place t.inside t.reached).is_place

pub path_to-requires-clause-is_step : goal.path_to-requires-clause-is_step
path_to-requires-clause-is_step g c =
    let s = goal.at.path_to-requires-clause-is_step g c in
    let t = turn-of g s.In-Some in
    stop-step (g.G.Graph.meaning c.args.graph.now) c.args.sources.now c.requires.is_graph c.requires.sources c.take.new.next c.in-Some.place (number_of c.loop-place.numbers.items c.in-Some.place)
    c.loop-place.numbers.items c.take.new.queue.items t c.pass_on.new.numbers c.pass_on.new.queue.items c.in-Some-2.end (stopped g s.In-Some-2 (next-number g s.In_ok-end t))

pub path_to-requires-clause-low : goal.path_to-requires-clause-low
path_to-requires-clause-low g c =
    let s = goal.at.path_to-requires-clause-low g c in
    let t = turn-of g s.In-Some in
    let M = g.G.Graph.meaning c.args.graph.now in
    subst (λ (l : List ℤ). (v : ℕ) → IsTrue (M.is_place v) → neg_ℤ (pos (2 ^ 30)) ≤ℤ number_of l v) (sym (c.as_slice-in-Some-2.ensures.value ∙ written-back g s.In_ok-end))
    (low M c.args.sources.now c.requires.is_graph c.requires.sources c.take.new.next c.in-Some.place (number_of c.loop-place.numbers.items c.in-Some.place)
    c.loop-place.numbers.items c.take.new.queue.items t c.pass_on.new.numbers c.pass_on.new.queue.items c.in-Some-2.end (stopped g s.In-Some-2 (next-number g s.In_ok-end t)))

pub returns-in-Some-2 : goal.returns-in-Some-2
returns-in-Some-2 g c =
    let s = goal.at.returns-in-Some-2 g c in
    let t = turn-of g s.In-Some in
    let M = g.G.Graph.meaning c.args.graph.now in
    stop-undercut M c.args.sources.now c.requires.is_graph c.requires.sources c.take.new.next c.in-Some.place (number_of c.loop-place.numbers.items c.in-Some.place)
    c.loop-place.numbers.items c.take.new.queue.items t c.pass_on.new.numbers c.pass_on.new.queue.items c.in-Some-2.end (stopped g s.In-Some-2 (next-number g s.In_ok-end t))
    c.in_ok-path_to.field-0.items
    (subst (λ (l : List ℤ). IsTraced M l c.in-Some.place c.in-Some-2.end c.in_ok-path_to.field-0.items) (c.as_slice-in-Some-2.ensures.value ∙ written-back g s.In_ok-end) c.in_ok-path_to.ensures)

-- ---- a turn that is not

passed : (g : Given.Over) (c : goal.In_default-2 g)
    → IsTurn (g.G.Graph.meaning c.args.graph.now) c.args.sources.now c.loop-place.numbers.items c.take.new.queue.items c.take.new.next c.in-Some.place (number_of c.loop-place.numbers.items c.in-Some.place)
    → to_z w32 (of_z w32 (to_z w32 (of_z w32 c.index.result.now) +ℤ pos 1)) ≡ number_of c.loop-place.numbers.items c.in-Some.place +ℤ pos 1
    → IsAfter (g.G.Graph.meaning c.args.graph.now) c.args.sources.now c.take.new.next c.in-Some.place (number_of c.loop-place.numbers.items c.in-Some.place)
    ((g.G.Graph.meaning c.args.graph.now).steps c.in-Some.place) c.loop-place.numbers.items c.take.new.queue.items c.pass_on.new.numbers c.pass_on.new.queue.items
passed g c t number =
    let M = g.G.Graph.meaning c.args.graph.now in
    after M c.args.sources.now c.requires.is_graph c.requires.sources c.take.new.next c.in-Some.place (number_of c.loop-place.numbers.items c.in-Some.place)
    (M.steps c.in-Some.place) c.loop-place.numbers.items c.take.new.queue.items c.pass_on.new.numbers c.pass_on.new.queue.items t (λ w i. In-has_step M.steps c.in-Some.place w i)
    (given-of (to_z w32 (of_z w32 (to_z w32 (of_z w32 c.index.result.now) +ℤ pos 1))) (number_of c.loop-place.numbers.items c.in-Some.place) (M.steps c.in-Some.place)
    c.loop-place.numbers.items c.as_mut_slice.result.now c.take.new.queue.items c.pass_on.new.numbers c.pass_on.new.queue.items
    c.in_ok-end.field-0 number c.as_mut_slice.ensures.value c.in_default-2.is c.in_ok-end.ensures)

pub loop-place-smaller : goal.loop-place-smaller
loop-place-smaller g c =
    let s = goal.at.loop-place-smaller g c in
    let t = turn-of g s.In-Some in
    let a = passed g c t (next-number g s.In_ok-end t) in
    subst (λ (l : List ℤ). unreached l + (length c.args.sources.now - c.take.new.next) + length c.pass_on.new.queue.items
    < unreached c.loop-place.numbers.items + (length c.args.sources.now - c.loop-place.next) + length c.loop-place.queue.items)
    (sym (written-back g s.In_ok-end))
    (smaller c.args.sources.now c.as_slice.result.now c.loop-place.numbers.items c.loop-place.queue.items c.take.new.queue.items c.pass_on.new.numbers c.pass_on.new.queue.items c.loop-place.next c.take.new.next c.in-Some.place
    c.in-Some.ensures a.work a.turn.search.levelled.next_within)

pub loop-place-preserved : goal.loop-place-preserved
loop-place-preserved g c =
    let s = goal.at.loop-place-preserved g c in
    let t = turn-of g s.In-Some in
    let a = passed g c t (next-number g s.In_ok-end t) in
    let M = g.G.Graph.meaning c.args.graph.now in
    subst (λ (l : List ℤ). IsSpreading M c.args.sources.now l c.pass_on.new.queue.items c.take.new.next) (sym (written-back g s.In_ok-end))
    (turn-end M c.args.sources.now c.requires.is_graph c.requires.sources c.take.new.next c.in-Some.place (number_of c.loop-place.numbers.items c.in-Some.place)
    c.pass_on.new.numbers c.pass_on.new.queue.items a.turn a.given)

pub returns : goal.returns
returns g c =
    spread-ends (g.G.Graph.meaning c.args.graph.now) c.args.sources.now c.requires.is_graph c.requires.sources c.loop-place.numbers.items c.loop-place.queue.items c.loop-place.next
    c.loop-place.invariant c.in_default.ensures.0 c.in_default.ensures.1
