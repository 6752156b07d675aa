-- Strings whose bits all stand in inner words: those with words on all sides, in rows where inner corners stand.
use Rattle.std.specs.Prelude.{ℕ, ◌+◌, ◌<◌, ◌≤◌, List, length, slice_index, IsTrue}
use Rattle.tl_strings.specs.Words.{bit}
use Rattle.tl_packed.specs.declared.strings.Strings.{Strings}

-- A word with a bit stands behind a strip and two words more, and before a strip and three words more.
abbrev pub IsInner : ℕ → List ℕ → Type 0
IsInner height words =
    (at x : ℕ) → x < 64 → IsTrue (bit (slice_index words at) x) → (height + 2 ≤ at) × (at + height + 3 < length words)

-- the same of the string of each class
pub record AreInner (height : ℕ) (s : Strings) : Type 0 where
  pub first : IsInner height s.first.items
  pub second : IsInner height s.second.items
  pub third : IsInner height s.third.items
