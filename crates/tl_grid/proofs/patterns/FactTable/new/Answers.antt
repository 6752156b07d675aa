use Rattle.std.proofs.Common.{◌≡◌, ◌/◌, ◌%◌, ◌++◌, ◌∷◌, [], map, refl, ap, sym, ◌∙◌, arith, ℕ, List}
use Rattle.std.proofs.lemmas.List.{take_more_set, take_all, length-set}
use Rattle.std.proofs.lemmas.List.FromFn.{map-range_with_len_more}
use Rattle.tl_lists.specs.Lists.{upto}
use Rattle.tl_grid.specs.Patterns.{facts_by}
use Rattle.tl_grid.specs.declared.patterns.RingFacts.{RingFacts}
use Rattle.tl_grid.proofs.patterns.FactTable.new.Goals as goal

pub loop-i-init : goal.loop-i-init
loop-i-init c = record { done = refl; size = refl }

pub loop-i-preserved : goal.loop-i-preserved
loop-i-preserved c =
    let i = c.loop-i.i in
    let by : ℕ → RingFacts = λ j. facts_by c.args.kind (j / 64) (j % 64) in
    record {
      done =
          take_more_set c.loop-i.all i c.facts.result (omega (arith, c.loop-i-test.true, c.loop-i.invariant.size))
          ∙ ap (λ (l : List RingFacts). l ++ c.facts.result ∷ []) c.loop-i.invariant.done
          ∙ ap (λ (f : RingFacts). map by (upto i) ++ f ∷ []) c.facts.ensures ∙ sym (map-range_with_len_more by 0 i i (omega arith));
      size = length-set c.loop-i.all i c.facts.result ∙ c.loop-i.invariant.size;
    }

pub returns : goal.returns
returns c =
    let all = c.loop-i.all in
    let end : c.loop-i.i ≡ 128 = omega (arith, c.loop-i-test.false, c.loop-i.auto.i-end) in
    sym (take_all c.loop-i.i all (omega (arith, end, c.loop-i.invariant.size))) ∙ c.loop-i.invariant.done
    ∙ ap (λ (n : ℕ). map (λ j. facts_by c.args.kind (j / 64) (j % 64)) (upto n)) end
