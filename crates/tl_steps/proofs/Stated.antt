-- What the layers above may cite of this crate, by topic. All else is private to it.

-- The least and the greatest of some numbers.
pub use Rattle.tl_steps.proofs.Extremes.{greatest-below, greatest-is, greatest-one, greatest-upper, least-below, least-is, least-lower, least-one}
-- The corners beside a corner, whose heights a step there reads. They are of other classes, and those beside an inner corner are
-- corners of the region. A step puts the same where it reads the same.
pub use Rattle.tl_steps.proofs.Read.{IsBeside, beside-class, beside-corner, some-step_in, some-step_out, stepped-below, stepped-same}
-- What a step puts, by the steps along which the heights fall.
pub use Rattle.tl_steps.proofs.Values.{highest-raised, highest-same, lowest-lowered, lowest-same}
-- The same by how the tiling stands; and no lawful heights that are the same elsewhere are higher, or lower.
pub use Rattle.tl_steps.proofs.Bounds.{highest-standing, lowest-standing, none-higher, none-lower}
-- The heights after a step are those of the tiling after it.
pub use Rattle.tl_steps.proofs.OneStep.{HasHeights, step-heights}
-- There are heights after a step. Those after steps at some corners of a class are those of the tiling after them.
pub use Rattle.tl_steps.proofs.Chosen.{chosen-heights, has-stepped}
-- The same of all inner corners of a class, which are such a list.
pub use Rattle.tl_steps.proofs.Class.{at-enumerated, class-chosen, class-heights, enumerated-at}
-- Parts of a class one after the other, in place.
pub use Rattle.tl_steps.proofs.InPlace.{both-swept}
-- Steps keep lawful heights lawful, and within their limits.
pub use Rattle.tl_steps.proofs.Lawful.{chosen-lawful, class-lawful, stepped-lawful}
pub use Rattle.tl_steps.proofs.Small.{stepped-within_limits}
-- Steps keep the order of heights.
pub use Rattle.tl_steps.proofs.Below.{swept-below}
