-- What the layers above may cite of this crate, by topic. All else is private to it.

-- The top tiling has the greatest lawful heights, the bottom tiling the least, and there are no two of either.
pub use Rattle.tl_lawful.proofs.Greatest.{bottom-least, one-bottom, one-top, top-greatest}
-- The corner to raise, or to lower, on the way to other heights.
pub use Rattle.tl_lawful.proofs.UnderTarget.{apart-inner, over-lowered, under-raised, ToLower, ToRaise}
-- How far apart two lists of heights are, place by place.
pub use Rattle.tl_lawful.proofs.Gaps.{gap-cons}
-- The least number of flips is the gap of the heights over the rise of a flip.
pub use Rattle.tl_lawful.proofs.Distance.{distance}
-- Lawful heights that agree at the corners have no gap.
pub use Rattle.tl_lawful.proofs.Places.{agreeing-gap}
-- One height moved towards a target; and a step that rises to a corner under the target begins at one that is under it.
pub use Rattle.tl_lawful.proofs.ChangedGap.{end-over, lowered-gap, raised-gap, rise-fits, source-under}
-- The greater and the lesser of two numbers.
pub use Rattle.tl_lawful.proofs.Choices.{greater-one, greater-upper, lesser-lower, lesser-one}
