use Rattle.std.proofs.Common.{◌≡◌, length, arith, w32, rules, pos, ◌+ℤ◌, ◌-ℤ◌}
use Rattle.std.proofs.lemmas.Int.{ints}
use mir.Val.{SFits, to_z, of_z}
use Rattle.tl_search.specs.Searching.{number_of}
use Rattle.tl_search.proofs.Passing.{back-within, before-found, before-none}
use Rattle.tl_search.proofs.spreading.place_before.Goals as goal

pub has_number-requires : goal.has_number-requires
has_number-requires g c =
    let n : length c.steps_back.result ≡ 3 = search rules in
    back-within (g.G.Graph.meaning c.args.graph.now) c.requires.is_graph c.args.place c.requires.is_place c.steps_back.result n
    c.steps_back.ensures c.args.numbers.now c.requires.count 0 (omega arith)

pub has_number-requires-2 : goal.has_number-requires-2
has_number-requires-2 g c =
    let n : length c.steps_back.result ≡ 3 = search rules in
    back-within (g.G.Graph.meaning c.args.graph.now) c.requires.is_graph c.args.place c.requires.is_place c.steps_back.result n
    c.steps_back.ensures c.args.numbers.now c.requires.count 1 (omega arith)

pub has_number-requires-3 : goal.has_number-requires-3
has_number-requires-3 g c =
    let n : length c.steps_back.result ≡ 3 = search rules in
    back-within (g.G.Graph.meaning c.args.graph.now) c.requires.is_graph c.args.place c.requires.is_place c.steps_back.result n
    c.steps_back.ensures c.args.numbers.now c.requires.count 2 (omega arith)

pub returns-then-has_number-3 : goal.returns-then-has_number-3
returns-then-has_number-3 g c =
    let n : length c.steps_back.result ≡ 3 = search rules in
    let z = number_of c.args.numbers.now c.args.place in
    let fits : SFits w32 z = search rules in
    let number = to_z w32 (of_z w32 (to_z w32 (of_z w32 z) -ℤ pos 1)) in
    let less : number +ℤ pos 1 ≡ z = omega (arith, ints, c.requires.low, fits) in
    before-found (g.G.Graph.meaning c.args.graph.now) c.requires.is_graph c.args.place c.requires.is_place c.steps_back.result n
    c.steps_back.ensures c.args.numbers.now number less 2 (omega arith) (c.has_number-3.ensures.0 c.if-has_number-3.true)

pub returns : goal.returns
returns g c =
    let n : length c.steps_back.result ≡ 3 = search rules in
    let z = number_of c.args.numbers.now c.args.place in
    let fits : SFits w32 z = search rules in
    let number = to_z w32 (of_z w32 (to_z w32 (of_z w32 z) -ℤ pos 1)) in
    let less : z ≡ number +ℤ pos 1 = omega (arith, ints, c.requires.low, fits) in
    before-none (g.G.Graph.meaning c.args.graph.now) c.requires.is_graph c.args.place c.requires.is_place c.steps_back.result n
    c.steps_back.ensures c.args.numbers.now number less
    (λ h. cc (c.has_number.ensures.1 h, c.if-has_number.false)) (λ h. cc (c.has_number-2.ensures.1 h, c.if-has_number-2.false)) (λ h. cc (c.has_number-3.ensures.1 h, c.if-has_number-3.false))
