-- An end of a border, and what a call of it changes.
use Rattle.std.specs.Prelude.{◌≡◌, ℕ, ◌+◌, ◌≤◌, slice_get, Some, vec_len}
use Rattle.tl_border.specs.declared.row.Row.{Row}
use Rattle.tl_border.specs.declared.row.Side.{Side}
use Rattle.tl_border.specs.declared.job.JobRows.{JobRows}
use Rattle.tl_border.specs.declared.line.PassView.{PassView}
use Rattle.tl_border.specs.Rows.{bits_of_row, rows_of, other}

-- The rows sent and received, and how many pushes found the own direction full and how many pops the other
-- one empty. `ahead` is how many rows the own direction held right after the last push of this end, and
-- `left` how many the other one held right after its last pop.
pub record EndView : Type 0 where
  pub job : JobRows
  pub side : Side
  pub sent : ℕ
  pub received : ℕ
  pub refused : ℕ
  pub missed : ℕ
  pub ahead : ℕ
  pub left : ℕ

abbrev pub fresh_end : JobRows → Side → EndView
fresh_end job side = record { job = job; side = side; sent = 0; received = 0; refused = 0; missed = 0; ahead = 0; left = 0 }

-- the row is the next that this end is to send
abbrev pub IsNextToSend : EndView → Row → Type 0
IsNextToSend e row = slice_get (rows_of e.job e.side) e.sent ≡ Some (bits_of_row row)

-- the row is the next that this end is to receive
abbrev pub IsNextToReceive : EndView → Row → Type 0
IsNextToReceive e row = slice_get (rows_of e.job (other e.side)) e.received ≡ Some (bits_of_row row)

-- there was room for the row
abbrev pub IsSentBy : EndView → EndView → Type 0
IsSentBy e f = (f ≡ record e { sent = e.sent + 1; ahead = f.ahead }) × (f.ahead ≤ 2)

-- nothing was taken of what this end had sent, and there was no room for a third row
abbrev pub IsRefusedBy : EndView → EndView → Type 0
IsRefusedBy e f = (f ≡ record e { refused = e.refused + 1 }) × (2 ≤ e.ahead) × (2 ≤ e.sent)

abbrev pub IsReceivedBy : EndView → Row → EndView → Type 0
IsReceivedBy e row f = (f ≡ record e { received = e.received + 1; left = f.left }) × IsNextToReceive e row

-- nothing had come since this end took the last row
abbrev pub IsMissedBy : EndView → EndView → Type 0
IsMissedBy e f = (f ≡ record e { missed = e.missed + 1 }) × (e.left ≡ 0)

-- what the two passes of an end know
abbrev pub end_view : PassView → PassView → EndView
end_view sender receiver = record {
  job = sender.job;
  side = sender.from;
  sent = sender.count;
  received = receiver.count;
  refused = sender.failed;
  missed = receiver.failed;
  ahead = sender.held;
  left = receiver.held;
}

abbrev pub IsOfLength : ℕ → Row → Type 0
IsOfLength n row = vec_len row.words ≡ n
