use Rattle.std.proofs.Common.{◌≡◌, ℕ, ◌+◌, ◌-◌, ◌%◌, ◌++◌, List, ap, arith, drop, length, subst, sym, take, ◌∙◌}
use Rattle.std.proofs.lemmas.List.FromFn.{length-map-range_with_len}
use Rattle.tl_extreme.specs.declared.corner_graph.PlaceKind.{PlaceKind}
use Rattle.tl_extreme.specs.PlaceKinds.{AreKinds, by_parity, corner_parity}
use Rattle.tl_extreme.proofs.KeptKinds.{kinds-turns}
use Rattle.tl_extreme.proofs.corner_graph.parities.Goals as goal

pub slice_bounds-extend_from_slice-end : goal.slice_bounds-extend_from_slice-end
slice_bounds-extend_from_slice-end c =
    let all : length c.deref.result.now ≡ c.args.width + 1 = ap length (c.deref.ensures.value ∙ c.in_ok-turns.ensures) ∙ length-map-range_with_len by_parity 0 (c.args.width + 1) in
    omega (arith, all)

pub loop-r-preserved : goal.loop-r-preserved
loop-r-preserved c =
    let r = c.loop-r.r in
    let wide : (r % 2 + c.args.width) - r % 2 ≡ c.args.width = omega arith in
    let now : c.extend_from_slice.new.self.items ≡ c.loop-r.kinds.items ++ take c.args.width (drop (r % 2) c.deref.result.now) =
    c.in_ok-extend_from_slice.ensures.items ∙ ap (λ (n : ℕ). c.loop-r.kinds.items ++ take n (drop (r % 2) c.deref.result.now)) wide in
    subst (λ (kinds : List PlaceKind). AreKinds (r + 1) c.args.width corner_parity kinds) (sym now)
    (kinds-turns r c.args.width c.loop-r.kinds.items c.deref.result.now c.loop-r.invariant (c.deref.ensures.value ∙ c.in_ok-turns.ensures))
