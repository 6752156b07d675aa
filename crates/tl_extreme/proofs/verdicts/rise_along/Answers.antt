use Rattle.std.proofs.Common.{◌≡◌, sym, ◌∙◌, arith, ◌-ℤ◌, w64, rules}
use mir.Val.{SFits}
use Rattle.std.proofs.lemmas.Int.{to_z-of_z}
use Rattle.tl_lists.proofs.Tests.{some_same}
use Rattle.tl_definitions.specs.Obstruction.{prefix}
use Rattle.tl_extreme.proofs.EndPlaces.{ends-some, first-place, last-place}
use Rattle.tl_extreme.proofs.verdicts.rise_along.Goals as goal

pub unreachable-requires : goal.unreachable-requires
unreachable-requires c =
    let (k, l, ends) = c.requires.ends in
    c.in_default.not-Some k (c.place_of.ensures ∙ first-place c.args.circuit.now c.requires.once c.args.path.now k l ends)

pub overflow_sub-path : goal.overflow_sub-path
overflow_sub-path c = let (k, l, ends) = c.requires.ends in ends-some c.args.circuit.now c.requires.once c.args.path.now k l ends

pub bounds-path-path : goal.bounds-path-path
bounds-path-path c = let (k, l, ends) = c.requires.ends in omega (arith, ends-some c.args.circuit.now c.requires.once c.args.path.now k l ends)

pub unreachable-requires-in_default-place_of : goal.unreachable-requires-in_default-place_of
unreachable-requires-in_default-place_of c =
    let (k, l, ends) = c.requires.ends in
    c.in_default-place_of.not-Some l (c.place_of-2.ensures ∙ last-place c.args.circuit.now c.requires.once c.args.path.now k l ends)

pub returns : goal.returns
returns c k l ends =
    let walk = c.args.circuit.now in
    let fits : SFits w64 c.rise_between.result = search rules in
    let first : c.in-Some.k ≡ k = some_same c.in-Some.k k (sym c.in-Some.is ∙ c.place_of.ensures ∙ first-place walk c.requires.once c.args.path.now k l ends) in
    let last : c.in-Some-place_of.l ≡ l = some_same c.in-Some-place_of.l l (sym c.in-Some-place_of.is ∙ c.place_of-2.ensures ∙ last-place walk c.requires.once c.args.path.now k l ends) in
    to_z-of_z w64 c.rise_between.result fits ∙ c.rise_between.ensures ∙ (λ i. prefix walk (last i) -ℤ prefix walk (first i))
