-- A row that came over a border.
use Rattle.std.proofs.Common.{◌≡◌, ℕ, ◌+◌, ◌<◌, sym, ◌∙◌, ap, arith}
use Rattle.std.specs.Prelude.{slice_get}
use Rattle.tl_border.specs.declared.row.Row.{Row}
use Rattle.tl_border.specs.Rows.{bits_of_row, other, rows_of}
use Rattle.tl_border.specs.Ends.{EndView, IsNextToReceive, IsReceivedBy}
use Rattle.tl_courses.specs.Courses.{Course}
use Rattle.tl_band.specs.declared.edge.Link.{Link}
use Rattle.tl_band.specs.Edges.{AreOfSize, IsLinkAt, waiting}
use Rattle.tl_band.specs.Handed.{edge_rows, row_at}
use Rattle.tl_band.proofs.Entries.{entry-is}

-- it is the next entry of the row beside the band
pub next-entry : (c : Course) (beside r : ℕ) (e : EndView) (row : Row) → rows_of e.job (other e.side) ≡ edge_rows c beside → e.received ≡ r → IsNextToReceive e row
    → bits_of_row row ≡ row_at c beside r
next-entry c beside r e row gets counted is_next =
    entry-is c beside r (bits_of_row row)
    (ap (λ (n : ℕ). slice_get (edge_rows c beside) n) (sym counted) ∙ (ap (λ rows. slice_get rows e.received) (sym gets) ∙ is_next))

-- and the link is one row further
pub link-received : (c : Course) (own beside done : ℕ) (old new : Link) (row : Row) → IsReceivedBy old.end row new.end → new.unsent ≡ old.unsent → new.received ≡ old.received + 1
    → old.received < done → (AreOfSize c.layout.strips old.spare.items → AreOfSize c.layout.strips new.spare.items) → IsLinkAt c own beside done old → IsLinkAt c own beside done new
link-received c own beside done old new row came unsent count ahead spare at = record {
  sends = (λ i. rows_of (job i) (side i)) ∙ at.sends;
  gets = (λ i. rows_of (job i) (other (side i))) ∙ at.gets;
  sent = (λ i. sent i + waiting (unsent i)) ∙ at.sent;
  unsent = λ r is. at.unsent r (sym unsent ∙ is) ∙ ap (row_at c own) (sym sent);
  counted = ap (λ (e : EndView). e.received) came.0 ∙ (ap (λ (n : ℕ). n + 1) at.counted ∙ sym count);
  not_ahead = omega (arith, count, ahead);
  near = omega (arith, count, at.near);
  spare = spare at.spare;
}
  where
    job : new.end.job ≡ old.end.job
    job = ap (λ (e : EndView). e.job) came.0

    side : new.end.side ≡ old.end.side
    side = ap (λ (e : EndView). e.side) came.0

    sent : new.end.sent ≡ old.end.sent
    sent = ap (λ (e : EndView). e.sent) came.0
