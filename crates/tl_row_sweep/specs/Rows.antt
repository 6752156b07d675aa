-- Rows of words: those that are kept, and those that are taken from other strings. Word strip * height + row of a string has the
-- slots 64 * strip to 64 * strip + 63 of a row.
use Rattle.std.specs.Prelude.{◌≡◌, ℕ, ◌+◌, ◌*◌, ◌<◌, ◌≤◌, ◌≢◌, List, slice_index}
use Rattle.tl_packed.specs.declared.strings.Strings.{Strings}
use Rattle.tl_packed.specs.OfClasses.{of_class}

-- In each strip the words of the rows before the first are the old ones, and so are those from the end on.
pub record AreKeptBeside (height first end : ℕ) (old new : List ℕ) : Type 0 where
  pub above : (strip row : ℕ) → row < first → row < height → slice_index new (strip * height + row) ≡ slice_index old (strip * height + row)
  pub below : (strip row : ℕ) → end ≤ row → row < height → slice_index new (strip * height + row) ≡ slice_index old (strip * height + row)

-- In each strip the words of the rows from the first to before the end are those of another string.
abbrev pub AreTaken : ℕ → ℕ → ℕ → List ℕ → List ℕ → Type 0
AreTaken height first end from new = (strip row : ℕ) → first ≤ row → row < end
    → slice_index new (strip * height + row) ≡ slice_index from (strip * height + row)

-- No strings but those of one class have changed.
abbrev pub AreOthersKept : ℕ → Strings → Strings → Type 0
AreOthersKept class old new = (k : ℕ) → k < 3 → k ≢ class → of_class new k ≡ of_class old k
