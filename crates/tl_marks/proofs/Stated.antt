-- What the layers above may cite of this crate, by topic. All else is private to it.

-- The half in which a whole number lies, modulo twice the rise of a flip, changes with each rise.
pub use Rattle.tl_marks.proofs.Halves.{half-less, half-more}
-- The base along a directed step.
pub use Rattle.tl_marks.proofs.Bases.{base-step}
-- The same height has the same mark. A step is crossed by marks exactly where lawful heights fall along it, and then by the
-- rise less 1.
pub use Rattle.tl_marks.proofs.Crossed.{crossed-falls, crossed-value, mark-same}
-- Lawful heights with the same marks at the inner corners are the same, and so are the same numbers.
pub use Rattle.tl_marks.proofs.Told.{heights-told, numbers-told}
-- Along all steps to an inner corner, and along all from it.
pub use Rattle.tl_marks.proofs.Standing.{high-crossed, low-crossed}
-- The mark where a step puts a height, for one step and for all that are made from the same old heights.
pub use Rattle.tl_marks.proofs.Stepped.{mark-stepped}
