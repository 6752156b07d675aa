-- A border that was just opened.
use Rattle.std.proofs.Common.{◌≡◌, ℕ, ◌+◌, List, get_or, sym, ◌∙◌, ap, arith, Option, Some, None, refl}
use Rattle.std.specs.Prelude.{All}
use Rattle.tl_border.specs.declared.row.Row.{Row}
use Rattle.tl_border.specs.declared.row.Side.{Side}
use Rattle.tl_border.specs.declared.job.JobRows.{JobRows}
use Rattle.tl_border.specs.Rows.{other, rows_of}
use Rattle.tl_border.specs.Ends.{EndView, IsOfLength, fresh_end}
use Rattle.tl_courses.specs.Courses.{Course}
use Rattle.tl_band.specs.declared.edge.Link.{Link}
use Rattle.tl_band.specs.Edges.{AreOfSize, IsLinkAt, waiting}
use Rattle.tl_band.specs.Handed.{edge_rows}

some-none : (row : Row) (o : Option Row) → o ≡ None → o ≡ Some row → ⊥
some-none row o none some = cc (none, some)

pub fresh-link : (c : Course) (own beside : ℕ) (job : JobRows) (side : Side) (k : Link) → k.end ≡ fresh_end job side → rows_of job side ≡ edge_rows c own
    → rows_of job (other side) ≡ edge_rows c beside → k.unsent ≡ None → k.received ≡ 0 → AreOfSize c.layout.strips k.spare.items → IsLinkAt c own beside 0 k
fresh-link c own beside job side k fresh sends gets none zero spare = record {
  sends = (λ i. rows_of (fresh i).job (fresh i).side) ∙ sends;
  gets = (λ i. rows_of (fresh i).job (other (fresh i).side)) ∙ gets;
  sent = (λ i. (fresh i).sent + waiting (none i)) ∙ refl;
  unsent = λ row is. absurd (some-none row k.unsent none is);
  counted = ap (λ (e : EndView). e.received) fresh ∙ sym zero;
  not_ahead = omega (arith, zero);
  near = omega arith;
  spare = spare;
}

pub sizes : (n : ℕ) (rows : List Row) → All (IsOfLength n) rows → AreOfSize n rows
sizes n rows each k d within = sym (get_or rows k d).words.ok.0 ∙ each k d within
