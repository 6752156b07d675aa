-- Rows of words that are written strip by strip.
use Rattle.std.proofs.Common.{◌≡◌, ℕ, ◌+◌, ◌*◌, ◌<◌, ◌≤◌, ◌⊎◌, inl, inr, List, length, refl, sym, ◌∙◌, subst, arith}
use Rattle.std.specs.Prelude.{slice_index}
use Rattle.std.proofs.lemmas.Bool.{cases_lt}
use Rattle.std.proofs.lemmas.List.{get_or_past}
use Rattle.std.proofs.Math.Nat.{mul-le-mul_right}
use Rattle.tl_row_sweep.specs.Rows.{AreKeptBeside, AreTaken}

-- the word of a strip stands before those of a later one
earlier : (height strip row later : ℕ) → row < height → strip < later → strip * height + row < later * height
earlier height strip row later within before = omega (arith, within, mul-le-mul_right height before)

-- A word between the words of two rows of a strip is that of a row between them.
between : (height from end strip other row : ℕ) → end ≤ height → row < height → strip * height + from ≤ other * height + row → other * height + row < strip * height + end
    → (other ≡ strip) × (from ≤ row) × (row < end)
between height from end strip other row fits within above below = go (cases_lt other strip) (cases_lt strip other)
  where
    go : (other < strip) ⊎ (strip ≤ other) → (strip < other) ⊎ (other ≤ strip) → (other ≡ strip) × (from ≤ row) × (row < end)
    go (inl h) m = absurd (omega (arith, earlier height other row strip within h, above))
    go (inr n) (inl h) = absurd (omega (arith, mul-le-mul_right height h, below, fits))
    go (inr n) (inr m) =
        let same : other ≡ strip = omega (arith, n, m) in
        let (above', below') = subst (λ (s : ℕ). (s * height + from ≤ other * height + row) × (other * height + row < s * height + end)) (sym same) (above, below) in
        (same, omega (arith, above'), omega (arith, below'))

-- In the strips from the first to before the end the words of some rows are made. All others are the old ones.
pub record AreStripsMade (Made : ℕ → ℕ → ℕ → Type 0) (height from end first until : ℕ) (old new : List ℕ) : Type 0 where
  pub made : (strip row : ℕ) → first ≤ strip → strip < until → from ≤ row → row < end → Made strip row (slice_index new (strip * height + row))
  pub kept : (strip row : ℕ) → row < height → (first ≤ strip → strip < until → from ≤ row → row < end → ⊥)
      → slice_index new (strip * height + row) ≡ slice_index old (strip * height + row)

pub none-made : (Made : ℕ → ℕ → ℕ → Type 0) (height from end first : ℕ) (old : List ℕ) → AreStripsMade Made height from end first first old old
none-made Made height from end first old = record { made = λ strip row above below. absurd (omega arith); kept = λ strip row within others. refl }

module _ (Made : ℕ → ℕ → ℕ → Type 0) (height from end first strip : ℕ) (fits : end ≤ height) (old new newer : List ℕ) (so_far : AreStripsMade Made height from end first strip old new) where
  -- the words of the next strip are still the old ones
  pub not-yet : (row : ℕ) → row < height → slice_index new (strip * height + row) ≡ slice_index old (strip * height + row)
  not-yet row within = so_far.kept strip row within (λ above below. absurd (omega arith))

  -- one strip more, where all words before its rows and behind them are kept
  pub strip-made : first ≤ strip → ((at : ℕ) → at < strip * height + from → slice_index newer at ≡ slice_index new at)
      → ((at : ℕ) → strip * height + end ≤ at → slice_index newer at ≡ slice_index new at)
      → ((row : ℕ) → from ≤ row → row < end → Made strip row (slice_index newer (strip * height + row))) → AreStripsMade Made height from end first (strip + 1) old newer
  strip-made ahead before behind one = record { made = made; kept = kept }
    where
      beside : (other row : ℕ) → row < height → (other ≡ strip → from ≤ row → row < end → ⊥) → slice_index newer (other * height + row) ≡ slice_index new (other * height + row)
      beside other row within outside = go (cases_lt (other * height + row) (strip * height + from)) (cases_lt (other * height + row) (strip * height + end))
        where
          go : (other * height + row < strip * height + from) ⊎ (strip * height + from ≤ other * height + row)
              → (other * height + row < strip * height + end) ⊎ (strip * height + end ≤ other * height + row) → slice_index newer (other * height + row) ≡ slice_index new (other * height + row)
          go (inl h) m = before _ h
          go (inr n) (inr h) = behind _ h
          go (inr n) (inl h) = let (same, above, below) = between height from end strip other row fits within n h in absurd (outside same above below)

      made : (other row : ℕ) → first ≤ other → other < strip + 1 → from ≤ row → row < end → Made other row (slice_index newer (other * height + row))
      made other row above below row_above row_below = go (cases_lt other strip)
        where
          go : (other < strip) ⊎ (strip ≤ other) → Made other row (slice_index newer (other * height + row))
          go (inl h) =
              subst (Made other row) (sym (beside other row (omega (arith, row_below, fits)) (λ same. absurd (omega (arith, same, h)))))
              (so_far.made other row above h row_above row_below)
          go (inr h) =
              let here : strip ≡ other = omega (arith, h, below) in
              subst (λ (s : ℕ). Made s row (slice_index newer (s * height + row))) here (one row row_above row_below)

      kept : (other row : ℕ) → row < height → (first ≤ other → other < strip + 1 → from ≤ row → row < end → ⊥)
          → slice_index newer (other * height + row) ≡ slice_index old (other * height + row)
      kept other row within outside =
          beside other row within (λ same. outside (omega (arith, same, ahead)) (omega (arith, same)))
          ∙ so_far.kept other row within (λ above below. outside above (omega (arith, below)))

-- the words of all other rows are kept
pub kept-beside : (Made : ℕ → ℕ → ℕ → Type 0) (height from end first until : ℕ) (old new : List ℕ) → AreStripsMade Made height from end first until old new
    → AreKeptBeside height from end old new
kept-beside Made height from end first until old new made = record {
  above = λ strip row before within. made.kept strip row within (λ _ _ not_before _. absurd (omega (arith, before, not_before)));
  below = λ strip row behind within. made.kept strip row within (λ _ _ _ not_behind. absurd (omega (arith, behind, not_behind)));
}

-- Where the words of all strips are those of others as long, so are those past the last.
pub all-taken : (height from end strips : ℕ) (these old new : List ℕ) → length these ≡ strips * height → length new ≡ strips * height
    → AreStripsMade (λ strip row word. word ≡ slice_index these (strip * height + row)) height from end 0 strips old new → AreTaken height from end these new
all-taken height from end strips these old new size new_size taken strip row above below = go (cases_lt strip strips)
  where
    go : (strip < strips) ⊎ (strips ≤ strip) → slice_index new (strip * height + row) ≡ slice_index these (strip * height + row)
    go (inl h) = taken.made strip row (omega arith) h above below
    go (inr h) =
        let past = mul-le-mul_right height h in
        get_or_past new (strip * height + row) 0 (omega (arith, past, new_size)) ∙ sym (get_or_past these (strip * height + row) 0 (omega (arith, past, size)))
