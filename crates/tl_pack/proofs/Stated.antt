-- What the layers above may cite of this crate, by topic. All else is private to it.

-- The strings of all classes that heights are packed into hold their marks, and so do strings that hold them elsewhere, too.
pub use Rattle.tl_pack.proofs.Held.{held-from, packed-held}
-- Lawful heights are the same on the circuit.
pub use Rattle.tl_pack.proofs.Filled.{boundary-filled}
