-- The words of one row of a string.
use Rattle.std.specs.Prelude.{◌≡◌, ℕ, ◌+◌, ◌*◌, ◌<◌, List, slice_index}
use Rattle.tl_layout.specs.declared.layout.Layout.{Layout}

-- one word of each strip
abbrev pub AreWordsOf : Layout → ℕ → List ℕ → List ℕ → Type 0
AreWordsOf l row string words = (strip : ℕ) → strip < l.strips → slice_index words strip ≡ slice_index string (strip * l.height + row)
