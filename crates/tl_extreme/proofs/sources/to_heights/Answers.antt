use Rattle.std.proofs.Common.{◌≡◌, ◌++◌, ◌+◌, ℤ, map, take, drop, subst, sym, ap, ◌∙◌, arith, rules, w32}
use Rattle.std.specs.Prelude.{slice_set}
use mir.Val.{SFits, to_z, of_z}
use Rattle.std.proofs.lemmas.Int.{to_z-of_z}
use Rattle.std.proofs.lemmas.List.Edits.{map_over_more}
use Rattle.tl_extreme.specs.Sources.{height_by}
use Rattle.tl_extreme.proofs.sources.to_heights.Goals as goal

pub loop-i-preserved : goal.loop-i-preserved
loop-i-preserved c =
    let x : ℤ = c.index.result.now in
    let fits : SFits w32 c.height.result = search rules in
    let small : SFits w32 x = search rules in
    let is : height_by c.args.negated x ≡ to_z w32 (of_z w32 c.height.result) =
    sym (to_z-of_z w32 c.height.result fits ∙ c.height.ensures ∙ ap (height_by c.args.negated) (to_z-of_z w32 x small)) in
    subst (λ (z : ℤ). slice_set c.loop-i.heights.items c.loop-i.i z ≡ map (height_by c.args.negated) (take (c.loop-i.i + 1) c.args.numbers.items) ++ drop (c.loop-i.i + 1) c.args.numbers.items) is
    (map_over_more (height_by c.args.negated) c.args.numbers.items c.loop-i.heights.items c.loop-i.i x (omega (arith, c.loop-i-test.true, c.len-i-end.ensures, c.args.numbers.ok.0)) c.loop-i.invariant c.index.ensures)
