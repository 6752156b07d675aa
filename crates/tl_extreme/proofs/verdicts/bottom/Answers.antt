use Rattle.std.proofs.Common.{◌∙◌, true, ap, sym, subst}
use Rattle.tl_definitions.specs.Region.{Region}
use Rattle.tl_definitions.specs.Heights.{AreLawful}
use Rattle.tl_lawful.specs.Order.{AreLeast}
use Rattle.tl_extreme.specs.Verdicts.{AreBottomHeights}
use Rattle.tl_extreme.proofs.CornerPlaces.{run-graph}
use Rattle.tl_extreme.proofs.SpreadHeights.{least-heights}
use Rattle.tl_extreme.proofs.Told.{IsSearched, searched, filled, filled-low, lawful-undercut}
use Rattle.tl_extreme.proofs.VerdictLemmas.{heights-by, bottom-heights}
use Rattle.tl_extreme.proofs.verdicts.bottom.Goals as goal

pub spread-requires-clause-is_graph : goal.spread-requires-clause-is_graph
spread-requires-clause-is_graph c = run-graph c.args.graph.now c.requires.is_grid true

pub to_heights-heights-requires : goal.to_heights-heights-requires
to_heights-heights-requires c =
    let told : IsSearched c.args.graph.now c.args.circuit.now true c.in_ok-numbers.field-0 =
    searched c.args.graph.now c.args.circuit.now true c.in_ok-sources.sources.items c.as_slice.result.now c.in_ok-numbers.field-0 c.as_slice.ensures.value
    c.in_ok-sources.ensures.from_circuit c.in_ok-sources.ensures.sources c.in_ok-numbers.ensures in
    filled-low c.args.graph.now c.args.circuit.now true c.in_ok-numbers.field-0 told c.in-Filled.numbers c.in-Filled.is

pub of_numbers-requires : goal.of_numbers-requires
of_numbers-requires c =
    let told : IsSearched c.args.graph.now c.args.circuit.now true c.in_ok-numbers.field-0 =
    searched c.args.graph.now c.args.circuit.now true c.in_ok-sources.sources.items c.as_slice.result.now c.in_ok-numbers.field-0 c.as_slice.ensures.value
    c.in_ok-sources.ensures.from_circuit c.in_ok-sources.ensures.sources c.in_ok-numbers.ensures in
    let least = least-heights c.args.graph.now c.requires.is_grid c.requires.accepted c.args.circuit.now c.requires.circuit c.requires.tiled.1.balanced told.sources c.in-Filled.numbers.items
    (filled c.args.graph.now c.args.circuit.now true c.in_ok-numbers.field-0 told c.in-Filled.numbers c.in-Filled.is) in
    subst (λ (S : Region). AreLawful S c.to_heights-heights.result.items) (sym c.region.ensures)
    (subst (AreLawful c.args.graph.now) (sym c.to_heights-heights.ensures) least.0)

pub unreachable-requires : goal.unreachable-requires
unreachable-requires c =
    let told : IsSearched c.args.graph.now c.args.circuit.now true c.in_ok-numbers.field-0 =
    searched c.args.graph.now c.args.circuit.now true c.in_ok-sources.sources.items c.as_slice.result.now c.in_ok-numbers.field-0 c.as_slice.ensures.value
    c.in_ok-sources.ensures.from_circuit c.in_ok-sources.ensures.sources c.in_ok-numbers.ensures in
    lawful-undercut c.args.graph.now c.requires.is_grid c.args.circuit.now c.requires.circuit true c.requires.tiled.0 c.requires.tiled.1 c.in_ok-numbers.field-0 told c.in-Undercut.field-0 c.in-Undercut.is

pub returns : goal.returns
returns c =
    let told : IsSearched c.args.graph.now c.args.circuit.now true c.in_ok-numbers.field-0 =
    searched c.args.graph.now c.args.circuit.now true c.in_ok-sources.sources.items c.as_slice.result.now c.in_ok-numbers.field-0 c.as_slice.ensures.value
    c.in_ok-sources.ensures.from_circuit c.in_ok-sources.ensures.sources c.in_ok-numbers.ensures in
    let least = least-heights c.args.graph.now c.requires.is_grid c.requires.accepted c.args.circuit.now c.requires.circuit c.requires.tiled.1.balanced told.sources c.in-Filled.numbers.items
    (filled c.args.graph.now c.args.circuit.now true c.in_ok-numbers.field-0 told c.in-Filled.numbers c.in-Filled.is) in
    subst (AreBottomHeights c.args.graph.now) (sym (c.of_numbers.ensures ∙ ap (heights-by c.to_heights-heights.result.items) c.region.ensures))
    (bottom-heights c.args.graph.now c.requires.accepted c.to_heights-heights.result.items (subst (AreLeast c.args.graph.now) (sym c.to_heights-heights.ensures) least))
