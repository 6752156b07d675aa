-- One run of the program, between the source that it reads and the sink that it writes.
use Rattle.std.specs.Prelude.{ℕ, ◌==◌, Bool, List, ◌++◌, MatchBool}
use Rattle.tl_io.specs.States.{SourceState, SinkState}
use Rattle.tl_run.specs.Answers.{Allows, Is}
use Rattle.tl_run.specs.Refusals.{read_fault}
use Rattle.tl_run.specs.Replies.{Meaning, asked, reads_input, is_silent, Answers}
use Rattle.tl_run.specs.Reading.{Reading, FailsEarly, read_fault_status}
use Rattle.tl_run.specs.Writing.{Writing}

-- an answer to the input, or, with the status for that, that a read failed
abbrev pub RunAnswers : Meaning → List ℕ → Type 0 → Allows
RunAnswers m input fails a = MatchBool (a.status == read_fault_status) (fails × Is read_fault a) (Answers m input a)

-- A run that means this: `came` are the bytes that were read, and `left` those that are left.
pub record Runs (m : Meaning) (silent : Bool) (source source' : SourceState) (sink sink' : SinkState) (status : ℕ) : Type 0 where
  pub came : List ℕ
  pub left : List ℕ
  pub reading : Reading (reads_input m) source source' came left status
  pub writing : Writing (RunAnswers m (came ++ left) (FailsEarly (reads_input m) source source' came)) silent sink sink' status

-- a run with these words
abbrev pub IsRun : List (List ℕ) → SourceState → SourceState → SinkState → SinkState → ℕ → Type 0
IsRun words source source' sink sink' status = Runs (asked words) (is_silent words) source source' sink sink' status
