-- The two directions of a border, as one end holds them.
use Rattle.std.specs.Prelude.{◌≡◌, Option}
use Rattle.crossbeam_queue.specs.declared.array_queue.Doing.{Doing}
use Rattle.crossbeam_queue.specs.declared.array_queue.Slotted.{Slotted}
use Rattle.crossbeam_queue.specs.Passes.{Pass, view, IsPassOf, ruled_capacity}
use Rattle.tl_border.specs.declared.row.Row.{Row}
use Rattle.tl_border.specs.declared.line.PassView.{PassView}
use Rattle.tl_border.specs.declared.line.Role.TheVariants.{Sender, Receiver}
use Rattle.tl_border.specs.Rows.{other}
use Rattle.tl_border.specs.Ends.{EndView, end_view}

abbrev pub end_of : Pass Row PassView → Pass Row PassView → EndView
end_of sender receiver = end_view (view sender) (view receiver)

module _ {Q A : Type 0} where
  -- the one pass sends on the first line, and the other receives on the second
  pub record IsEndOf (outgoing incoming : Slotted (Option Row) (Doing Row PassView) Q A) (sender receiver : Pass Row PassView) : Type 0 where
    pub sends_on : IsPassOf outgoing sender
    pub gets_from : IsPassOf incoming receiver
    pub room : ruled_capacity outgoing ≡ 2
    pub sends : (view sender).role ≡ Sender
    pub gets : (view receiver).role ≡ Receiver
    pub one_job : (view receiver).job ≡ (view sender).job
    pub other_side : (view receiver).from ≡ other (view sender).from
