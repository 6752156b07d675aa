-- What a contract sees of a source and of a sink.
use Rattle.std.specs.Prelude.{ℕ, List, Option}

-- the bytes that a source has left, where it tells them, and how many of its reads have failed
pub record SourceState : Type 0 where
  pub left : Option (List ℕ)
  pub faults : ℕ

-- the bytes that a sink holds, where it tells them, and how many of its writes have failed
pub record SinkState : Type 0 where
  pub held : Option (List ℕ)
  pub faults : ℕ
