use Rattle.std.proofs.Common.{◌+◌, ◌*◌, ◌<◌, length, replicate, ◌∙◌, arith, pos}
use Rattle.std.proofs.lemmas.List.{length-map}
use Rattle.std.proofs.lemmas.Option.{slice_get_within}
use Rattle.tl_definitions.specs.Lattice.{Side}
use Rattle.tl_definitions.specs.Accepted.{circuit_corners}
use Rattle.tl_height.proofs.FillLemmas.{prefix-fits, prefix-is}
use Rattle.tl_height.proofs.FilledNumbers.{no-prefixes, prefix-place, more-prefixes}
use Rattle.tl_height.proofs.filling.boundary_numbers.Goals as goal

pub loop-k-init : goal.loop-k-init
loop-k-init c =
    no-prefixes c.args.region.now c.args.circuit.now c.in_ok-numbers.numbers.items
    (c.in_ok-numbers.ensures.items_if_clones_equal (λ y e. e)
    ∙ (λ i. replicate ((c.rows.ensures.rows i + 1) * (c.columns.ensures.columns i + 2)) (pos 0)))

pub overflow_add-place : goal.overflow_add-place
overflow_add-place c =
    let place = prefix-place c.args.region.now c.args.circuit.now c.columns.ensures.is_grid c.requires c.loop-k.k c.corner-corner.result c.corner-corner.ensures in
    rw (c.columns.ensures.columns) (omega (arith, place.0, place.1))

pub index_mut-requires : goal.index_mut-requires
index_mut-requires c =
    let place = prefix-place c.args.region.now c.args.circuit.now c.columns.ensures.is_grid c.requires c.loop-k.k c.corner-corner.result c.corner-corner.ensures in
    rw (c.columns.ensures.columns) (omega (arith, place.0, c.loop-k.invariant.count, c.loop-k.numbers.ok.0))

pub overflow_cast-prefix : goal.overflow_cast-prefix
overflow_cast-prefix c = prefix-fits c.prefix.result c.loop-k.k c.prefix.ensures.low c.prefix.ensures.high (omega (arith, c.loop-k-test.true, c.len-k-end.ensures.few))

pub loop-k-preserved : goal.loop-k-preserved
loop-k-preserved c =
    let value =
    prefix-is c.prefix.result c.loop-k.k c.prefix.ensures.low c.prefix.ensures.high (omega (arith, c.loop-k-test.true, c.len-k-end.ensures.few)) ∙ c.prefix.ensures.prefix in
    rw (c.columns.ensures.columns)
    (more-prefixes c.args.region.now c.args.circuit.now c.columns.ensures.is_grid c.requires c.loop-k.k c.corner-corner.result c.corner-corner.ensures
    c.loop-k.numbers.items c.loop-k.invariant _ value)

pub returns-clause-boundary : goal.returns-clause-boundary
returns-clause-boundary c j v e =
    let within : j < length (circuit_corners c.args.circuit.now) = slice_get_within (circuit_corners c.args.circuit.now) j v e in
    c.loop-k.invariant.on j v (omega (arith, within, length-map c.args.circuit.now (λ (s : Side). s.from), c.loop-k-test.false, c.len-k-end.ensures.len)) e
