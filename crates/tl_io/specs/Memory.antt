-- Sources and sinks over memory, for tests.
use Rattle.std.specs.Prelude.{ℕ, ◌-◌, Bool, ◌||◌, ◌==◌, min, List, ◌++◌, length, take, drop, if◌then◌else◌}
use Rattle.std.specs.List.{list_any}
use Rattle.tl_io.specs.declared.source.Took as took
use Rattle.tl_io.specs.declared.sink.Gave as gave
use Rattle.tl_io.specs.Counts.{raised}

-- The bytes that are left, the most that one read gives, the numbers of the reads that fail, how many reads
-- there were, and how many of them failed.
pub record Source : Type 0 where
  pub left : List ℕ
  pub piece : ℕ
  pub fails : List ℕ
  pub calls : ℕ
  pub faults : ℕ

-- whether the next call, by its number, is one of those that fail
abbrev pub is_listed : List ℕ → ℕ → Bool
is_listed fails call = list_any (λ n. n == call) fails

-- what the next read answers, with so much room in the buffer
abbrev pub read_answer : Source → ℕ → took.Took
read_answer s room =
    if is_listed s.fails s.calls then took.TheVariants.Failed
    else (if length s.left == 0 then took.TheVariants.End
    else took.TheVariants.Bytes (min s.piece (min room (length s.left))))

abbrev pub read_count : took.Took → ℕ
read_count (took.TheVariants.Bytes n) = n
read_count _ = 0

-- the source after it
abbrev pub after_read : Source → ℕ → Source
after_read s room = record {
  left = drop (read_count (read_answer s room)) s.left;
  piece = s.piece;
  fails = s.fails;
  calls = raised s.calls;
  faults = if is_listed s.fails s.calls then raised s.faults else s.faults;
}

-- The bytes that are held, how many there may be, the most that one write takes, the numbers of the writes
-- that fail, how many writes there were, and how many of them failed.
pub record Sink : Type 0 where
  pub held : List ℕ
  pub room : ℕ
  pub piece : ℕ
  pub fails : List ℕ
  pub calls : ℕ
  pub faults : ℕ

-- whether the next write fails: by its number, or since all room is used
abbrev pub write_fails : Sink → Bool
write_fails s = is_listed s.fails s.calls || length s.held == s.room

-- how many of so many bytes the next write takes
abbrev pub write_count : Sink → ℕ → ℕ
write_count s bytes = if write_fails s then 0 else min s.piece (min bytes (s.room - length s.held))

abbrev pub write_answer : Sink → ℕ → gave.Gave
write_answer s bytes = if write_fails s then gave.TheVariants.Failed else gave.TheVariants.Bytes (write_count s bytes)

abbrev pub after_write : Sink → List ℕ → Sink
after_write s bytes = record {
  held = s.held ++ take (write_count s (length bytes)) bytes;
  room = s.room;
  piece = s.piece;
  fails = s.fails;
  calls = raised s.calls;
  faults = if write_fails s then raised s.faults else s.faults;
}
