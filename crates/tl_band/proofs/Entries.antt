-- The entries of the list of an edge row.
use Rattle.std.proofs.Common.{◌≡◌, ℕ, ◌<◌, length, sym, ◌∙◌, arith, Some}
use Rattle.std.specs.Prelude.{slice_get}
use Rattle.std.proofs.lemmas.Option.{same_Some, slice_get_read, slice_get_within}
use Rattle.std.proofs.lemmas.List.FromFn.{get_or-map-range_with_len, length-map-range_with_len}
use Rattle.tl_border.specs.declared.row.RowBits.{RowBits}
use Rattle.tl_courses.specs.Courses.{Course, steps_of}
use Rattle.tl_band.specs.Handed.{edge_rows, row_at}

edge_rows-length : (c : Course) (row : ℕ) → length (edge_rows c row) ≡ steps_of c
edge_rows-length c row = length-map-range_with_len (row_at c row) 0 (steps_of c)

pub entry-at : (c : Course) (row p : ℕ) → p < steps_of c → slice_get (edge_rows c row) p ≡ Some (row_at c row p)
entry-at c row p within =
    slice_get_read (edge_rows c row) (steps_of c) p (row_at c row p) (sym (edge_rows-length c row)) within
    (sym (get_or-map-range_with_len (row_at c row) 0 (steps_of c) p p (row_at c row p) within (omega arith)))

pub entry-within : (c : Course) (row p : ℕ) (r : RowBits) → slice_get (edge_rows c row) p ≡ Some r → p < steps_of c
entry-within c row p r at = let within = slice_get_within (edge_rows c row) p r at in omega (arith, within, edge_rows-length c row)

pub entry-is : (c : Course) (row p : ℕ) (r : RowBits) → slice_get (edge_rows c row) p ≡ Some r → r ≡ row_at c row p
entry-is c row p r at = same_Some r (row_at c row p) (sym at ∙ entry-at c row p (entry-within c row p r at))
