-- What the layers above may cite of this crate, by topic. All else is private to it.

-- Bits of words that are made of others by `&`, `|`, `^`, `!` and shifts.
pub use Rattle.tl_strings.proofs.Bits.{bit-and, bit-not, bit-or, bit-shl, bit-shl_below, bit-shr, bit-xor}
-- The bit of a slot, and those of the slots beside it, by words.
pub use Rattle.tl_strings.proofs.Places.{string-at, string-before, string-behind}
