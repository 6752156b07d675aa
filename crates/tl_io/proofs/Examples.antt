-- What the relations of the contracts hold of, and what they don't.
use Rattle.std.proofs.Common.{ℕ, ◌≤◌, [], ◌∷◌, Some, refl, arith}
use Rattle.tl_io.specs.Counts.{last_count, Rose}
use Rattle.tl_io.specs.Reads.{IsReadOf}
use Rattle.tl_io.specs.declared.source.Took.TheVariants.{Bytes, End, Failed}

-- ---- a count that rose

pub Rose-one : Rose 0 1
Rose-one = omega arith

pub Rose-last : Rose last_count last_count
Rose-last = omega arith

pub Rose-same : Rose 0 0 → ⊥
Rose-same rose = omega (arith, rose)

pub Rose-later : (before now : ℕ) → Rose before now → before ≤ now
Rose-later before now rose = omega (arith, rose)

-- ---- a read of a reader that tells its bytes

pub IsReadOf-bytes : IsReadOf (Bytes 1) (Some (7 ∷ 8 ∷ [])) (Some (8 ∷ [])) (7 ∷ 0 ∷ [])
IsReadOf-bytes = refl

-- more than were given
pub IsReadOf-more : IsReadOf (Bytes 2) (Some (7 ∷ 8 ∷ [])) (Some (8 ∷ [])) (7 ∷ 0 ∷ []) → ⊥
IsReadOf-more read = cc read

-- the end where bytes are left
pub IsReadOf-early_end : IsReadOf End (Some (7 ∷ [])) (Some (7 ∷ [])) (0 ∷ []) → ⊥
IsReadOf-early_end read = cc read.1

-- a failed read that took a byte
pub IsReadOf-taken : IsReadOf Failed (Some (7 ∷ [])) (Some []) (7 ∷ []) → ⊥
IsReadOf-taken read = cc read
