use Rattle.std.proofs.Common.{◌+◌, get_or, sym, subst, arith, ℤ, pos, w32, rules}
use Rattle.std.specs.Prelude.{slice_set}
use Rattle.std.proofs.lemmas.Int.{to_z-of_z}
use Rattle.std.proofs.lemmas.Option.{slice_get-get_or}
use mir.Val.{SFits}
use Rattle.tl_search.specs.declared.spreading.Source.{Source}
use Rattle.tl_search.proofs.FirstNumbers.{AreWritten, place-within, written-more, written-all}
use Rattle.tl_search.proofs.spreading.first_numbers.Goals as goal

pub index_mut-requires : goal.index_mut-requires
index_mut-requires g c =
    let d : Source = record { place = 0; number = pos 0 } in
    omega (
      arith,
      c.loop-source.numbers.ok.0,
      place-within (g.G.Graph.meaning c.args.graph.now) c.args.sources.now c.requires.is_graph c.requires.sources c.loop-source.numbers.items c.loop-source.source-index c.loop-source.invariant d c.loop-source-test.true,
    )

pub loop-source-preserved : goal.loop-source-preserved
loop-source-preserved g c =
    let d : Source = record { place = 0; number = pos 0 } in
    let s = get_or c.args.sources.now c.loop-source.source-index d in
    let fits : SFits w32 s.number = search rules in
    subst (λ (z : ℤ). AreWritten (g.G.Graph.meaning c.args.graph.now) c.args.sources.now (slice_set c.loop-source.numbers.items s.place z) (c.loop-source.source-index + 1))
    (sym (to_z-of_z w32 s.number fits))
    (written-more (g.G.Graph.meaning c.args.graph.now) c.args.sources.now c.requires.is_graph c.requires.sources c.loop-source.numbers.items c.loop-source.source-index s c.loop-source.invariant
    (slice_get-get_or c.args.sources.now c.loop-source.source-index d c.loop-source-test.true))

pub returns : goal.returns
returns g c =
    written-all (g.G.Graph.meaning c.args.graph.now) c.args.sources.now c.loop-source.numbers.items c.loop-source.source-index c.loop-source-test.false c.loop-source.invariant
