use Rattle.std.proofs.Common.{◌∙◌, false, ap, sym, subst}
use Rattle.tl_definitions.specs.Region.{Region}
use Rattle.tl_definitions.specs.Heights.{AreLawful}
use Rattle.tl_obstruction.specs.Told.{told_by}
use Rattle.tl_lawful.specs.Order.{AreGreatest}
use Rattle.tl_extreme.specs.Undercuts.{IsUndercutOf}
use Rattle.tl_extreme.specs.Verdicts.{AreTopHeights}
use Rattle.tl_extreme.proofs.CornerPlaces.{run-graph}
use Rattle.tl_extreme.proofs.SpreadHeights.{greatest-heights}
use Rattle.tl_extreme.proofs.Told.{IsSearched, searched, filled, filled-low, undercut}
use Rattle.tl_extreme.proofs.VerdictLemmas.{heights-by, top-heights, gap-reason}
use Rattle.tl_extreme.proofs.verdicts.top.Goals as goal

pub spread-requires-clause-is_graph : goal.spread-requires-clause-is_graph
spread-requires-clause-is_graph c = run-graph c.args.graph.now c.requires.is_grid false

pub to_heights-heights-requires : goal.to_heights-heights-requires
to_heights-heights-requires c =
    let told : IsSearched c.args.graph.now c.args.circuit.now false c.in_ok-numbers.field-0 =
    searched c.args.graph.now c.args.circuit.now false c.in_ok-sources.sources.items c.as_slice.result.now c.in_ok-numbers.field-0 c.as_slice.ensures.value
    c.in_ok-sources.ensures.from_circuit c.in_ok-sources.ensures.sources c.in_ok-numbers.ensures in
    filled-low c.args.graph.now c.args.circuit.now false c.in_ok-numbers.field-0 told c.in-Filled.numbers c.in-Filled.is

pub of_numbers-requires : goal.of_numbers-requires
of_numbers-requires c =
    let told : IsSearched c.args.graph.now c.args.circuit.now false c.in_ok-numbers.field-0 =
    searched c.args.graph.now c.args.circuit.now false c.in_ok-sources.sources.items c.as_slice.result.now c.in_ok-numbers.field-0 c.as_slice.ensures.value
    c.in_ok-sources.ensures.from_circuit c.in_ok-sources.ensures.sources c.in_ok-numbers.ensures in
    let greatest = greatest-heights c.args.graph.now c.requires.is_grid c.requires.accepted c.args.circuit.now c.requires.circuit c.requires.balanced told.sources c.in-Filled.numbers.items
    (filled c.args.graph.now c.args.circuit.now false c.in_ok-numbers.field-0 told c.in-Filled.numbers c.in-Filled.is) in
    subst (λ (S : Region). AreLawful S c.to_heights-heights.result.items) (sym c.region.ensures)
    (subst (AreLawful c.args.graph.now) (sym c.to_heights-heights.ensures) greatest.0)

pub returns-in-Filled : goal.returns-in-Filled
returns-in-Filled c =
    let told : IsSearched c.args.graph.now c.args.circuit.now false c.in_ok-numbers.field-0 =
    searched c.args.graph.now c.args.circuit.now false c.in_ok-sources.sources.items c.as_slice.result.now c.in_ok-numbers.field-0 c.as_slice.ensures.value
    c.in_ok-sources.ensures.from_circuit c.in_ok-sources.ensures.sources c.in_ok-numbers.ensures in
    let greatest = greatest-heights c.args.graph.now c.requires.is_grid c.requires.accepted c.args.circuit.now c.requires.circuit c.requires.balanced told.sources c.in-Filled.numbers.items
    (filled c.args.graph.now c.args.circuit.now false c.in_ok-numbers.field-0 told c.in-Filled.numbers c.in-Filled.is) in
    subst (AreTopHeights c.args.graph.now) (sym (c.of_numbers.ensures ∙ ap (heights-by c.to_heights-heights.result.items) c.region.ensures))
    (top-heights c.args.graph.now c.requires.accepted c.to_heights-heights.result.items (subst (AreGreatest c.args.graph.now) (sym c.to_heights-heights.ensures) greatest))

pub gap-requires-clause-undercut : goal.gap-requires-clause-undercut
gap-requires-clause-undercut c =
    let told : IsSearched c.args.graph.now c.args.circuit.now false c.in_ok-numbers.field-0 =
    searched c.args.graph.now c.args.circuit.now false c.in_ok-sources.sources.items c.as_slice.result.now c.in_ok-numbers.field-0 c.as_slice.ensures.value
    c.in_ok-sources.ensures.from_circuit c.in_ok-sources.ensures.sources c.in_ok-numbers.ensures in
    subst (IsUndercutOf c.args.graph.now c.args.circuit.now) (sym c.as_slice-in-Undercut.ensures.value)
    (undercut c.args.graph.now c.args.circuit.now c.in_ok-numbers.field-0 told c.in-Undercut.path c.in-Undercut.is)

pub returns : goal.returns
returns c = let holds = c.in_ok-gap-in-Undercut.ensures in gap-reason c.args.graph.now c.requires.accepted c.requires.balanced (told_by c.in_ok-gap-in-Undercut.field-0) holds.0 holds.1
