-- What a run writes to its sink.
use Rattle.std.specs.Prelude.{◌≡◌, ◌⊎◌, ℕ, Bool, List, [], IsTrue}
use Rattle.std.specs.Io.KnownBytes.{append_known}
use Rattle.tl_io.specs.Counts.{Rose}
use Rattle.tl_io.specs.States.{SinkState}
use Rattle.tl_io.specs.Writes.{AppendsPart, IsPrefixOf}
use Rattle.tl_run.specs.Answers.{Answer, answer, Allows, is_whole, write_fault_status, memory_status}

-- the beginning of an allowed text
abbrev pub Begins : Allows → List ℕ → Type 0
Begins P out = (a : Answer) × P a × IsPrefixOf out a.text

-- so many bytes were appended, and no write failed
pub record Appends (out : List ℕ) (sink sink' : SinkState) : Type 0 where
  pub held : sink'.held ≡ append_known sink.held out
  pub steady : sink'.faults ≡ sink.faults

-- a write failed, after a beginning of these bytes was appended
pub record Cuts (bytes : List ℕ) (sink sink' : SinkState) : Type 0 where
  pub part : AppendsPart sink.held sink'.held bytes
  pub rose : Rose sink.faults sink'.faults

-- A run that ends with this status wrote an allowed text, or the beginning of one. `silent` says whether all memory is
-- taken before the first byte is written.
pub record Writing (P : Allows) (silent : Bool) (sink sink' : SinkState) (status : ℕ) : Type 0 where
  pub out : List ℕ
  pub held : sink'.held ≡ append_known sink.held out
  -- a whole text, with its status
  pub whole : IsTrue (is_whole status) → P (answer out status)
  pub steady : IsTrue (is_whole status) → sink'.faults ≡ sink.faults
  -- a failed write
  pub cut : status ≡ write_fault_status → Begins P out
  pub failed : status ≡ write_fault_status → Rose sink.faults sink'.faults
  -- want of memory
  pub stopped : status ≡ memory_status → (out ≡ []) ⊎ Begins P out
  pub silence : status ≡ memory_status → IsTrue silent → out ≡ []
