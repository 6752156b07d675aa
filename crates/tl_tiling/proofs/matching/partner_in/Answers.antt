use Rattle.tl_definitions.proofs.Regions.{has-within}
use Rattle.tl_tiling.proofs.matching.partner_in.Goals as goal

pub letter_at-requires-clause-row : goal.letter_at-requires-clause-row
letter_at-requires-clause-row c = (has-within c.args.region.now c.args.cell c.requires.is_grid.placed c.requires.cell).0

pub letter_at-requires-clause-column : goal.letter_at-requires-clause-column
letter_at-requires-clause-column c = (has-within c.args.region.now c.args.cell c.requires.is_grid.placed c.requires.cell).1
