-- Answers of the program: a text and a status, and which of them are allowed.
use Rattle.std.specs.Prelude.{◌≡◌, ℕ, List, Bool, not, ◌||◌, ◌==◌}

pub record Answer : Type 0 where
  pub text : List ℕ
  pub status : ℕ

abbrev pub answer : List ℕ → ℕ → Answer
answer text status = record { text = text; status = status }

-- Which answers are allowed.
abbrev pub Allows : Type 1
Allows = Answer → Type 0

-- this answer, and no other
abbrev pub Is : Answer → Allows
Is b a = a ≡ b

-- this text with this status
abbrev pub Says : List ℕ → ℕ → Allows
Says text status = Is (answer text status)

-- the statuses that a text has which isn't the beginning of one: not those of a failed write and of want of memory
abbrev pub write_fault_status : ℕ
write_fault_status = 5

abbrev pub memory_status : ℕ
memory_status = 6

abbrev pub is_whole : ℕ → Bool
is_whole status = not (status == write_fault_status || status == memory_status)
