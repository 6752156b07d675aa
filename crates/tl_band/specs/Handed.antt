-- What a border hands over in a stretch: the edge rows of the two bands beside it, as one thread would have them.
use Rattle.std.specs.Prelude.{ℕ, ◌+◌, List, map}
use Rattle.tl_lists.specs.Lists.{upto}
use Rattle.tl_border.specs.declared.row.RowBits.{RowBits}
use Rattle.tl_border.specs.declared.job.JobRows.{JobRows}
use Rattle.tl_border.specs.Rows.{row_of_slots}
use Rattle.tl_courses.specs.Courses.{Course, after, class_at, steps_of}

-- Entry p, counted from 0: a row in the strings of the class that is swept then, after its sweep.
abbrev pub row_at : Course → ℕ → ℕ → RowBits
row_at c row p = row_of_slots c.layout.strips (after c (p + 1) (class_at c.layout.kind p) row)

abbrev pub edge_rows : Course → ℕ → List RowBits
edge_rows c row = map (row_at c row) (upto (steps_of c))

-- the rows of both sides, where this is the last row above the border
abbrev pub job_of : Course → ℕ → JobRows
job_of c row = record { upper = edge_rows c row; lower = edge_rows c (row + 1) }
