-- What the layers above may cite of this crate, by topic. All else is private to it.

-- Corners of the region are corners of the lattice. Two of one class, in one column or in two beside each other, are the same.
pub use Rattle.tl_packing.proofs.Places.{class-apart, inner-corner, inner-within, one-corner, region-corner}
-- Where the corners beside an inner corner stand.
pub use Rattle.tl_packing.proofs.Places.{slot-not_first, square-beside, triangle-beside}
-- What a step puts at a corner, by the bits of the corners beside it.
pub use Rattle.tl_packing.proofs.Bits.{square-stepped, triangle-stepped}
-- The slots of a class: which are low, which are free, and their coins.
pub use Rattle.tl_packing.proofs.Slots.{inner-after, inner-before, inner-coin, inner-free, outer-free, row-within}
-- A slot that isn't free keeps its bit.
pub use Rattle.tl_packing.proofs.Bounds.{square-bound, square_bits-bound, triangle-bound, triangle_bits-bound}
-- A step at all slots of a class, for one end of a pair, and the number of an inner corner.
pub use Rattle.tl_packing.proofs.Swept.{numbered, square_bits-held, squares-held, triangle_bits-held, triangles-held}
