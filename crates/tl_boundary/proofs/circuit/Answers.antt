use Rattle.std.proofs.Common.{◌≡◌, ◌+◌, List, [], ◌∷◌, ◌++◌, map, refl, rules, sym, ◌∙◌, ap, arith, ℤ, pos}
use Rattle.std.proofs.lemmas.List.FromFn.{map-range_with_len_more}
use Rattle.tl_definitions.specs.Obstruction.{prefix}
use Rattle.tl_grid.specs.Sides.{side_by}
use Rattle.tl_boundary.proofs.SideLemmas.{all-prefixes, sum-here}
use Rattle.tl_boundary.proofs.OneCircuit.{one_circuit}
use Rattle.tl_boundary.proofs.circuit.Goals as goal

pub loop-step-init : goal.loop-step-init
loop-step-init c = record { sum = refl; prefixes = c.in_ok-push.ensures.items ∙ ap (λ (l : List ℤ). l ++ pos 0 ∷ []) c.in_ok-prefixes.ensures.items }

pub overflow_add-sum : goal.overflow_add-sum
overflow_add-sum c =
    (sum-here c.args.region.now c.boundary-steps.result.now c.boundary-steps.ensures.is_grid c.boundary-steps.ensures.circuit c.loop-step.step-index c.loop-step-test.true
    _ _ _ _ c.kind-kind.ensures c.loop-step.invariant.sum c.from.ensures c.sign.ensures).fits

pub loop-step-preserved : goal.loop-step-preserved
loop-step-preserved c =
    let R = c.args.region.now in
    let steps = c.boundary-steps.result.now in
    let next =
    (sum-here R steps c.boundary-steps.ensures.is_grid c.boundary-steps.ensures.circuit c.loop-step.step-index c.loop-step-test.true
    _ _ _ _ c.kind-kind.ensures c.loop-step.invariant.sum c.from.ensures c.sign.ensures).is in
    record {
      sum = next;
      prefixes =
          c.in_ok-push-2.ensures.items ∙ (λ i. c.loop-step.invariant.prefixes i ++ next i ∷ [])
          ∙ sym (map-range_with_len_more (prefix (map (side_by R.kind) steps)) 0 (c.loop-step.step-index + 1) (c.loop-step.step-index + 1) (omega arith));
    }

pub invariant_of-result : goal.invariant_of-result
invariant_of-result c =
    let R = c.args.region.now in
    let steps = c.boundary-steps.result.now in
    let copied : c.in_ok-to_vec.field-0.items ≡ steps = search (rules, c.in_ok-to_vec.ensures.items_if_clones_equal) in
    rw (copied, c.kind-kind.ensures)
    (all-prefixes R steps c.boundary-steps.ensures.is_grid c.boundary-steps.ensures.circuit c.loop-step.step-index _ (omega (arith, c.loop-step-test.false, c.loop-step.auto.step-index-end))
    c.loop-step.invariant.prefixes)

pub returns-clause-only : goal.returns-clause-only
returns-clause-only c other d =
    let copied : c.in_ok-to_vec.field-0.items ≡ c.boundary-steps.result.now = search (rules, c.in_ok-to_vec.ensures.items_if_clones_equal) in
    one_circuit c.args.region.now (map (side_by c.kind-kind.result) c.in_ok-to_vec.field-0.items) other c.boundary-steps.ensures.accepted
    (rw (copied, c.kind-kind.ensures) c.boundary-steps.ensures.circuit) d
