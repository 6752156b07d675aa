-- Bits that are compared where others are set.
use Rattle.std.specs.Prelude.{◌≡◌, ℕ, ◌<◌, List, length, slice_index, IsTrue}
use Rattle.tl_strings.specs.Words.{bit}
use Rattle.tl_packed.specs.declared.strings.Strings.{Strings}

-- There are as many words of each class.
abbrev pub AreAsLong : Strings → Strings → Type 0
AreAsLong s others =
    (length s.first.items ≡ length others.first.items)
    × (length s.second.items ≡ length others.second.items)
    × (length s.third.items ≡ length others.third.items)

-- Two words have the same bits where a third has ones.
abbrev pub AgreeUnder : ℕ → ℕ → ℕ → Type 0
AgreeUnder low one other = (x : ℕ) → x < 64 → IsTrue (bit low x) → bit one x ≡ bit other x

-- the same of all words of a class, and of those of all classes
abbrev pub AllAgreeUnder : List ℕ → List ℕ → List ℕ → Type 0
AllAgreeUnder lows one other = (at : ℕ) → AgreeUnder (slice_index lows at) (slice_index one at) (slice_index other at)

pub record ClassesAgreeUnder (lows one other : Strings) : Type 0 where
  pub first : AllAgreeUnder lows.first.items one.first.items other.first.items
  pub second : AllAgreeUnder lows.second.items one.second.items other.second.items
  pub third : AllAgreeUnder lows.third.items one.third.items other.third.items
