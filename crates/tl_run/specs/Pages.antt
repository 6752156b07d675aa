-- Bytes that are gathered before they are written.
use Rattle.std.specs.Prelude.{◌≡◌, ℕ, List, ◌++◌}
use Rattle.tl_io.specs.States.{SinkState}
use Rattle.tl_run.specs.Writing.{Appends}

-- Bytes were put behind those that waited. The first of all these were appended to the sink, and the others wait now.
pub record Gathers (waiting bytes waiting' : List ℕ) (sink sink' : SinkState) : Type 0 where
  pub out : List ℕ
  pub in_order : waiting ++ bytes ≡ out ++ waiting'
  pub written : Appends out sink sink'
