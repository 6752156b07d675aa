use Rattle.std.proofs.Common.{◌≡◌, length, get_or, None, arith, w32, subst, ◌∙◌, rules, ℤ}
use Rattle.std.proofs.lemmas.Int.{to_z-of_z}
use Rattle.tl_search.specs.Searching.{ArePassed, AreGiven}
use Rattle.tl_search.proofs.Passing.{steps-within, stopped-second, stopped-third, passed-all}
use Rattle.tl_search.proofs.spreading.pass_on.Goals as goal

pub give-requires : goal.give-requires
give-requires g c =
    let n : length c.steps.result ≡ 3 = search rules in
    steps-within (g.G.Graph.meaning c.args.graph.now) c.requires.is_graph c.args.place c.requires.is_place c.steps.result n
    c.steps.ensures c.args.numbers.now c.requires.count 0 (omega arith)

pub give-requires-2 : goal.give-requires-2
give-requires-2 g c =
    let n : length c.steps.result ≡ 3 = search rules in
    steps-within (g.G.Graph.meaning c.args.graph.now) c.requires.is_graph c.args.place c.requires.is_place c.steps.result n
    c.steps.ensures c.give.new.numbers (c.give.auto.numbers ∙ c.requires.count) 1 (omega arith)

pub give-requires-3 : goal.give-requires-3
give-requires-3 g c =
    let n : length c.steps.result ≡ 3 = search rules in
    steps-within (g.G.Graph.meaning c.args.graph.now) c.requires.is_graph c.args.place c.requires.is_place c.steps.result n
    c.steps.ensures c.give-2.new.numbers (c.give-2.auto.numbers ∙ (c.give.auto.numbers ∙ c.requires.count)) 2 (omega arith)

pub returns-then-branch-2 : goal.returns-then-branch-2
returns-then-branch-2 g c =
    let n : length c.steps.result ≡ 3 = search rules in
    subst (λ (z : ℤ). ArePassed z ((g.G.Graph.meaning c.args.graph.now).steps c.args.place) c.args.numbers.now c.args.queue.now.items c.give-2.new.numbers c.give-2.new.queue.items (get_or c.steps.result 1 None))
    (to_z-of_z w32 c.args.number c.ranges.number)
    (stopped-second c.steps.result _ n c.steps.ensures _ c.args.numbers.now c.args.queue.now.items
    c.give.new.numbers c.give.new.queue.items c.in_ok-give.field-0 c.if-branch.false c.in_ok-give.ensures
    c.give-2.new.numbers c.give-2.new.queue.items c.in_ok-give-2.field-0 c.if-branch-2.true c.in_ok-give-2.ensures)

pub returns-then-branch-3 : goal.returns-then-branch-3
returns-then-branch-3 g c =
    let n : length c.steps.result ≡ 3 = search rules in
    subst (λ (z : ℤ). ArePassed z ((g.G.Graph.meaning c.args.graph.now).steps c.args.place) c.args.numbers.now c.args.queue.now.items c.give-3.new.numbers c.give-3.new.queue.items (get_or c.steps.result 2 None))
    (to_z-of_z w32 c.args.number c.ranges.number)
    (stopped-third c.steps.result _ n c.steps.ensures _ c.args.numbers.now c.args.queue.now.items
    c.give.new.numbers c.give.new.queue.items c.in_ok-give.field-0 c.if-branch.false c.in_ok-give.ensures
    c.give-2.new.numbers c.give-2.new.queue.items c.in_ok-give-2.field-0 c.if-branch-2.false c.in_ok-give-2.ensures
    c.give-3.new.numbers c.give-3.new.queue.items c.in_ok-give-3.field-0 c.if-branch-3.true c.in_ok-give-3.ensures)

pub returns : goal.returns
returns g c =
    let n : length c.steps.result ≡ 3 = search rules in
    subst (λ (z : ℤ). AreGiven z ((g.G.Graph.meaning c.args.graph.now).steps c.args.place) c.args.numbers.now c.args.queue.now.items c.give-3.new.numbers c.give-3.new.queue.items)
    (to_z-of_z w32 c.args.number c.ranges.number)
    (passed-all c.steps.result _ n c.steps.ensures _ c.args.numbers.now c.args.queue.now.items
    c.give.new.numbers c.give.new.queue.items c.in_ok-give.field-0 c.if-branch.false c.in_ok-give.ensures
    c.give-2.new.numbers c.give-2.new.queue.items c.in_ok-give-2.field-0 c.if-branch-2.false c.in_ok-give-2.ensures
    c.give-3.new.numbers c.give-3.new.queue.items c.in_ok-give-3.field-0 c.if-branch-3.false c.in_ok-give-3.ensures)
