-- What the layers above may cite of this crate, by topic. All else is private to it.

-- The bits of shifted words.
pub use Rattle.tl_layout.proofs.Words.{shl-high, shl-low, shr-bit}
-- Inner corners by their places among all corner places, and by their numbers.
pub use Rattle.tl_layout.proofs.Inner.{all-inner, any-inner, at-inner, corner-by, inner-by, one-number, place-at, places-count}
-- A word and a bit of it tell the row and the slot, and these the corner.
pub use Rattle.tl_layout.proofs.Stood.{corner-alone, number-alone, word-same}
-- What the place of an inner corner tells in a layout.
pub use Rattle.tl_layout.proofs.Stood.{all-stand, bit-by, by-place, word-by}
