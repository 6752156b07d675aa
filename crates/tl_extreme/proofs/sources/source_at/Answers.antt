use Rattle.tl_closing.proofs.Stated.{circuit-corner}
use Rattle.tl_extreme.proofs.sources.source_at.Goals as goal

pub place-requires : goal.place-requires
place-requires c = circuit-corner c.args.graph.now c.args.circuit.now c.args.k c.corner.result c.requires.is_grid.placed c.requires.circuit c.corner.ensures
