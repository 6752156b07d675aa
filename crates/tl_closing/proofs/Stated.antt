-- What the layers above may cite of this crate, by topic. All else is private to it.

-- The residue of a corner, which rises by 1 along each directed step.
pub use Rattle.tl_closing.proofs.Residues.{step-one_way}
-- The directed steps round a cell, its left step among them, and its corners, as tables by kind and colour.
pub use Rattle.tl_closing.proofs.Sides.{SameStep, directed, same_step}
-- Neighbours have a step in common, and so a corner.
pub use Rattle.tl_closing.proofs.Shared.{Share}
-- A step knows the dark cell on its left and the light cell on its right, and two cells know the step between them.
pub use Rattle.tl_closing.proofs.Centres.{IsCentre, cell-one, cell-two, round-centre, step-one}
-- The corners and the edges of a region as lists: who stands in them, and how many.
pub use Rattle.tl_closing.proofs.Edges.{Distinct-cells, In-edges, In-has, In-vertices, Step, cell-within, corner_of-from, edges, has-In, is_step-from, is_step-parts, round-corners, round-step, step-ends, vertices}
-- Differences that close round each cell have a potential, and only one.
pub use Rattle.tl_closing.proofs.Closing.{IsInOnePart, closing, potential-closes, residue-step}
-- The edges that a tiling's tiles cross: one round each cell. So the climbs of a tiling close round each cell, and
-- tilings with the same climbs are the same.
pub use Rattle.tl_closing.proofs.Crossed.{IsAcross, IsCrossing, covers-cases, covers-from, crossed-parts, edge-round, is_crossed, one-crossed, round-edge, same-heights, tile-step}
-- Along the circuit: a function rises by the sign of each boundary edge exactly where it has the prefixes.
pub use Rattle.tl_closing.proofs.Circuit.{boundary-walk, side-cell, walk-boundary}
-- Different cells with a step in common are neighbours.
pub use Rattle.tl_closing.proofs.Near.{above-is, below-is, left-is, right-is, shared-near}
-- Boundary edges are steps round one cell of the region alone, and so no tile crosses them.
pub use Rattle.tl_closing.proofs.Boundary.{boundary-parts}
-- A region with a cell has a boundary, and all its circuits begin at one corner.
pub use Rattle.tl_closing.proofs.Start.{first-one}
-- What the test of two whole numbers tells of them.
pub use Rattle.tl_closing.proofs.Falls.{lt-false, lt-true}
-- Lawful heights along a step take one of two values; and two lawful heights differ by a multiple of the rise.
pub use Rattle.tl_closing.proofs.AlongSteps.{one_or_fall, same-residue}
-- A function on the corners of a region as a list of numbers, and that the numbers are told by the heights.
pub use Rattle.tl_closing.proofs.Numbers.{corner-within, height-numbers_of, numbers_of, numbers_of-heights, same-numbers}
-- Tilings of an accepted region and lawful heights correspond one to one.
pub use Rattle.tl_closing.proofs.Heights.{Start, has-heights, has-tiling, heights-lawful, start-of}
-- Round a corner: the cells of its ring, and its left neighbour. A corner of a region is an inner corner, or a boundary
-- side begins there.
pub use Rattle.tl_closing.proofs.Ring.{HasBack, HasRing, among-down, among-up, down_sides, inner-ring, up_sides}
-- A tiling stands high at an inner corner where its tiles cross all steps from it, and low where they cross all
-- steps to it.
pub use Rattle.tl_closing.proofs.Standing.{Claims, IsDart, claims, colours-differ, pair_is, standing-crossed, standing-heights}
-- Lawful heights stay lawful where they are raised at an inner corner to which all steps fall, or lowered at one from
-- which all steps fall.
pub use Rattle.tl_closing.proofs.Changed.{lowered-lawful, raised-lawful}
-- The steps from and to an inner corner are steps of the region.
pub use Rattle.tl_closing.proofs.InnerSteps.{inner-of_region, inner-step_in, inner-step_out}
-- Lawful heights are no larger than the circuit is long and three times the column.
pub use Rattle.tl_closing.proofs.Bounds.{Within, heights-small}
-- In a region within the limits they are within theirs.
pub use Rattle.tl_closing.proofs.Limits.{heights-within_limits}
-- The list of all tiles of a region is ascending.
pub use Rattle.tl_closing.proofs.TilesInOrder.{tiles-linked}
-- Each cell of a region at an inner corner is covered by a tile of hi there, and by one of lo.
pub use Rattle.tl_closing.proofs.RingTiles.{dart-step-in, dart-step-out, hi-covers, lo-covers}
-- Two tilings that cross the same steps but those at an inner corner, where one has all tiles of one way round it and
-- the other all of the other way, differ by the exchange of these tiles.
pub use Rattle.tl_closing.proofs.Exchange.{In-is_in, is_in-In}
-- Raising the height at a corner where a tiling stands low is putting it high there, and lowering is putting it low.
pub use Rattle.tl_closing.proofs.Flips.{lo-at}
-- And so the tiling put high or low, and the flipped tiling, has these heights.
pub use Rattle.tl_closing.proofs.Flipped.{lowered-flip, lowered-put_low, raised-flip, raised-put_high}
-- The total by colours. The signs of all sides of the cells add up to it, as the two sides of an edge between two
-- cells of the region have opposite signs.
pub use Rattle.tl_closing.proofs.Colours.{signs-total, total-colours}
-- The heights of a tiling one by one, in raster order: 0 where no cell has a corner, the prefixes on the boundary, and
-- at an inner corner the height of its left neighbour and a rise that the two cells between them tell.
pub use Rattle.tl_closing.proofs.Filling.{FromLeft, StandsAt, cells-few, climb_between, fill-boundary, fill-inner, fill-nothing, fill-place, fill-range, leads_right, left_corner, lower_cell, place, rise_from_left, upper_cell}
-- Where the height of a corner stands; and one number put there changes that height alone.
pub use Rattle.tl_closing.proofs.PutNumbers.{place-within, put-changed}
-- A corner of the region is on the circuit or an inner one, and a corner of the circuit is one of the region.
pub use Rattle.tl_closing.proofs.OnCircuit.{circuit-corner, on_circuit-inner}
-- The prefixes along the circuit are the differences of residues, up to a multiple of the rise.
pub use Rattle.tl_closing.proofs.CircuitResidues.{circuit-residues}
-- What each step of an accepted region hands on holds at all its corners or at none.
pub use Rattle.tl_closing.proofs.HandedOn.{handed-on}
