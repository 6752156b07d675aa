-- What one write to a sink takes.
use Rattle.std.specs.Prelude.{◌≡◌, ℕ, ◌≤◌, List, [], ◌++◌, length, take, Option}
use Rattle.std.specs.Io.KnownBytes.{append_known}
use Rattle.tl_io.specs.declared.sink.Gave.{Gave}
use Rattle.tl_io.specs.declared.sink.Gave.TheVariants.{Bytes, Failed}

-- the bytes that a write took
abbrev pub taken_by : Gave → List ℕ → List ℕ
taken_by (Bytes n) bytes = take n bytes
taken_by Failed bytes = []

-- at least one byte, and no more than there are
abbrev pub IsTakenCount : Gave → List ℕ → Type 0
IsTakenCount (Bytes n) bytes = (1 ≤ n) × (n ≤ length bytes)
IsTakenCount Failed bytes = Unit {0}

-- the beginning of a text
abbrev pub IsPrefixOf : List ℕ → List ℕ → Type 0
IsPrefixOf part whole = (rest : List ℕ) × (part ++ rest ≡ whole)

-- a beginning of the bytes was appended, and nothing else
pub record AppendsPart (old new : Option (List ℕ)) (bytes : List ℕ) : Type 0 where
  pub part : List ℕ
  pub is_prefix : IsPrefixOf part bytes
  pub appended : new ≡ append_known old part
