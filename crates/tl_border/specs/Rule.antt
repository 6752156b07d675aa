-- The rule of one direction of a border: what its queue holds, and what its two passes know.
use Rattle.std.specs.Prelude.{◌≡◌, ◌⊎◌, ℕ, ◌+◌, ◌≤◌, List, [], ◌∷◌, map, length, take, drop, slice_get, Some}
use Rattle.tl_border.specs.declared.row.Row.{Row}
use Rattle.tl_border.specs.declared.row.Side.{Side}
use Rattle.tl_border.specs.declared.row.Side.TheVariants.{Upper}
use Rattle.tl_border.specs.declared.job.JobRows.{JobRows}
use Rattle.tl_border.specs.declared.line.PassView.{PassView}
use Rattle.tl_border.specs.declared.line.Role.TheVariants.{Opener, Sender, Receiver, Spent}
use Rattle.tl_border.specs.Rows.{bits_of_row, rows_of}

abbrev pub no_rows : JobRows
no_rows = record { upper = []; lower = [] }

-- the one pass of a queue that isn't opened for a job yet
abbrev pub opener : PassView
opener = record { role = Opener; job = no_rows; from = Upper; count = 0; failed = 0; held = 0 }

-- a pass that can do nothing more
abbrev pub spent : PassView
spent = record { role = Spent; job = no_rows; from = Upper; count = 0; failed = 0; held = 0 }

-- of a job and the side that sends: so many rows sent, pushes refused, and rows in the queue after the last push
abbrev pub sender_of : JobRows → Side → ℕ → ℕ → ℕ → PassView
sender_of job from sent refused held = record { role = Sender; job = job; from = from; count = sent; failed = refused; held = held }

-- the same of rows got, pops that found nothing, and rows in the queue after the last pop
abbrev pub receiver_of : JobRows → Side → ℕ → ℕ → ℕ → PassView
receiver_of job from got missed held = record { role = Receiver; job = job; from = from; count = got; failed = missed; held = held }

-- The queue holds the rows from the first that isn't got to the last that is sent. It holds at most what it
-- held after the last push, and at least what it held after the last pop.
pub record IsLine (items : List Row) (sender receiver : PassView) : Type 0 where
  pub sends : sender.role ≡ Sender
  pub gets : receiver.role ≡ Receiver
  pub one_job : receiver.job ≡ sender.job
  pub one_side : receiver.from ≡ sender.from
  pub sent_within : sender.count ≤ length (rows_of sender.job sender.from)
  pub got_within : receiver.count ≤ sender.count
  pub queued : map bits_of_row items ≡ drop receiver.count (take sender.count (rows_of sender.job sender.from))
  pub at_most : length items ≤ sender.held
  pub at_least : receiver.held ≤ length items
  pub held_within : sender.held ≤ sender.count

abbrev pub AreSpent : List PassView → Type 0
AreSpent [] = Unit {0}
AreSpent (v ∷ vs) = (v.role ≡ Spent) × AreSpent vs

-- Two passes are at work, and each other pass is spent.
pub record IsOpened (items : List Row) (views : List PassView) : Type 0 where
  pub sender : PassView
  pub receiver : PassView
  pub others : List PassView
  pub views_are : views ≡ sender ∷ receiver ∷ others
  pub line : IsLine items sender receiver
  pub done : AreSpent others

abbrev pub IsUnopened : List Row → List PassView → Type 0
IsUnopened items views = (items ≡ []) × (views ≡ opener ∷ [])

abbrev pub Keeps : List Row → List PassView → Type 0
Keeps items views = IsUnopened items views ⊎ IsOpened items views

-- the pass is one of the two at work
abbrev pub IsAtWork : PassView → Type 0
IsAtWork v = (v.role ≡ Sender) ⊎ (v.role ≡ Receiver)

-- ---- what one step changes of the pass that steps
-- one row more, after which the queue holds so many
abbrev pub after_step : PassView → ℕ → PassView
after_step v held = record v { count = v.count + 1; held = held }

abbrev pub after_failure : PassView → PassView
after_failure v = record v { failed = v.failed + 1 }

-- there was room for the row
abbrev pub IsSent : PassView → PassView → Type 0
IsSent v w = (w ≡ after_step v w.held) × (w.held ≤ 2)

abbrev pub IsGot : PassView → Row → PassView → Type 0
IsGot v row w = (w ≡ after_step v w.held) × (slice_get (rows_of v.job v.from) v.count ≡ Some (bits_of_row row))

-- ---- what a pass learns of a queue that it finds full or empty
abbrev pub HoldsAtMost : PassView → List Row → Type 0
HoldsAtMost v items = (length items ≤ v.held) × (v.held ≤ v.count)

abbrev pub HoldsAtLeast : PassView → List Row → Type 0
HoldsAtLeast v items = v.held ≤ length items
