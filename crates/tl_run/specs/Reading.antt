-- What a run makes of its source.
use Rattle.std.specs.Prelude.{◌≡◌, ℕ, ◌≤◌, ◌==◌, Bool, false, ◌&&◌, not, List, [], ◌++◌, length, IfSome, IsTrue}
use Rattle.std.specs.Io.KnownBytes.{prepend_known}
use Rattle.tl_io.specs.Counts.{Rose}
use Rattle.tl_io.specs.States.{SourceState}
use Rattle.tl_formats.specs.declared.TheConstants.{INPUT_LIMIT}
use Rattle.tl_run.specs.Answers.{is_whole}

abbrev pub read_fault_status : ℕ
read_fault_status = 4

-- a read failed before more bytes had come than an input may have
pub record FailsEarly (reads : Bool) (source source' : SourceState) (came : List ℕ) : Type 0 where
  pub asked : IsTrue reads
  pub rose : Rose source.faults source'.faults
  pub early : length came ≤ INPUT_LIMIT

-- A run that reads its input, or doesn't, and ends with this status. `came` are the bytes that were read, and `left`
-- those that are left then: the input is both, one after the other.
pub record Reading (reads : Bool) (source source' : SourceState) (came left : List ℕ) (status : ℕ) : Type 0 where
  pub came_is : source.left ≡ prepend_known came source'.left
  pub left_is : IfSome source'.left (λ bytes. bytes ≡ left)
  -- nothing is read, or all of an input that isn't too long
  pub nothing : reads ≡ false → came ≡ []
  pub all : IsTrue (reads && is_whole status && not (status == read_fault_status)) → length (came ++ left) ≤ INPUT_LIMIT → left ≡ []
  -- the status of a failed read comes exactly with one
  pub failed : status ≡ read_fault_status → FailsEarly reads source source' came
  pub steady : IsTrue (is_whole status && not (status == read_fault_status)) → source'.faults ≡ source.faults
