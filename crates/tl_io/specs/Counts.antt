-- Counts of faults.
use Rattle.std.specs.Prelude.{ℕ, ◌+◌, ◌-◌, ◌^◌, ◌≤◌, min, max}

-- the last count of a counter of 64 bits, at which it stands still
abbrev pub last_count : ℕ
last_count = 2 ^ 64 - 1

-- the count after one more fault: one more, up to the last count
abbrev pub raised : ℕ → ℕ
raised count = max count (min (count + 1) last_count)

-- The count rose from the first number to the second, by one or more. The last count counts as risen.
abbrev pub Rose : ℕ → ℕ → Type 0
Rose before now = raised before ≤ now
