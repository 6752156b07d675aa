use Rattle.std.proofs.Common.{◌≡◌, ◌+◌, ◌*◌, ℕ, sym, subst, ap, take, arith}
use Rattle.std.specs.Prelude.{slice_set}
use Rattle.tl_definitions.specs.Accepted.{circuit_corners}
use Rattle.tl_closing.proofs.Stated.{circuit-corner}
use Rattle.tl_extreme.specs.declared.corner_graph.PlaceKind.TheVariants.{Edge}
use Rattle.tl_extreme.specs.CornerGraph.{place}
use Rattle.tl_extreme.specs.PlaceKinds.{AreKinds}
use Rattle.tl_extreme.proofs.CornerPlaces.{place-small_by, place-within}
use Rattle.tl_extreme.proofs.KeptKinds.{marked, marked-more, marked-all}
use Rattle.tl_extreme.proofs.corner_graph.place_kinds.Goals as goal

pub overflow_mul-corner : goal.overflow_mul-corner
overflow_mul-corner c =
    let R = c.args.region.now in
    let on = circuit-corner R c.args.circuit.now c.loop-k.k c.corner-corner.result c.rows.ensures.is_grid.placed c.requires c.corner-corner.ensures in
    let wide : c.columns-width.result + 2 ≡ R.columns + 2 = ap (λ (n : ℕ). n + 2) c.columns-width.ensures.columns in
    omega (arith, place-small_by R c.rows.ensures.is_grid c.corner-corner.result (c.columns-width.result + 2) wide on)

pub overflow_add-corner : goal.overflow_add-corner
overflow_add-corner c =
    let R = c.args.region.now in
    let on = circuit-corner R c.args.circuit.now c.loop-k.k c.corner-corner.result c.rows.ensures.is_grid.placed c.requires c.corner-corner.ensures in
    let wide : c.columns-width.result + 2 ≡ R.columns + 2 = ap (λ (n : ℕ). n + 2) c.columns-width.ensures.columns in
    omega (arith, place-small_by R c.rows.ensures.is_grid c.corner-corner.result (c.columns-width.result + 2) wide on)

pub index_mut-requires : goal.index_mut-requires
index_mut-requires c =
    let R = c.args.region.now in
    let u = c.corner-corner.result in
    let on = circuit-corner R c.args.circuit.now c.loop-k.k u c.rows.ensures.is_grid.placed c.requires c.corner-corner.ensures in
    let here : u.r * (c.columns-width.result + 2) + u.x ≡ place R u = ap (λ (n : ℕ). u.r * (n + 2) + u.x) c.columns-width.ensures.columns in
    omega (arith, here, place-within R c.rows.ensures.is_grid u on, c.loop-k.invariant.size, c.loop-k.kinds.ok.0)

pub loop-k-preserved : goal.loop-k-preserved
loop-k-preserved c =
    let R = c.args.region.now in
    let u = c.corner-corner.result in
    subst (λ (n : ℕ). AreKinds (R.rows + 1) (R.columns + 2) (marked (take (c.loop-k.k + 1) (circuit_corners c.args.circuit.now))) (slice_set c.loop-k.kinds.items (u.r * (n + 2) + u.x) Edge))
    (sym c.columns-width.ensures.columns)
    (marked-more R c.rows.ensures.is_grid c.args.circuit.now c.requires c.loop-k.k u c.loop-k.kinds.items c.corner-corner.ensures c.loop-k.invariant)

pub returns : goal.returns
returns c = marked-all c.args.region.now c.rows.ensures.is_grid c.args.circuit.now c.requires c.loop-k.k c.loop-k.kinds.items (omega (arith, c.loop-k-test.false, c.loop-k.auto.k-end, c.len-k-end.ensures.len)) c.loop-k.invariant
