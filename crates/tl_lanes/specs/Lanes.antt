-- The lesser and the greater of two numbers, and a choice of two numbers for each place by a bit.
use Rattle.std.specs.Prelude.{ℕ, ◌/◌, ◌%◌, ◌==◌, ◌≡◌, ℤ, pos, ◌+ℤ◌, ◌-ℤ◌, int_le, List, length, All, FitsSigned, slice_index, slice_index_or, if◌then◌else◌}
use Rattle.std.specs.Int.{bit_at, w32}

abbrev pub lesser : ℤ → ℤ → ℤ
lesser y z = if int_le y z then y else z

abbrev pub greater : ℤ → ℤ → ℤ
greater y z = if int_le y z then z else y

-- the number of a place: the high one where the word's bit of this place is 1
abbrev pub by_bit : List ℤ → List ℤ → ℕ → ℕ → ℤ
by_bit low high word place = if bit_at word place == 1 then slice_index_or high place (pos 0) else slice_index_or low place (pos 0)

-- the same by bits of which 32 have a word, and the first of them its lowest bit
abbrev pub chosen : List ℤ → List ℤ → List ℕ → ℕ → ℤ
chosen low high words place = if bit_at (slice_index words (place / 32)) (place % 32) == 1 then slice_index_or high place (pos 0) else slice_index_or low place (pos 0)

-- one more than the lesser of two, and one less than the greater
abbrev pub over : ℤ → ℤ → ℤ
over y z = lesser y z +ℤ pos 1

abbrev pub under : ℤ → ℤ → ℤ
under y z = greater y z -ℤ pos 1

-- the number of a place after a step: one more than the lesser of two where the bit is 1, one less than the greater of two others
-- where it is 0
abbrev pub stepped : List ℤ → List ℤ → List ℤ → List ℤ → ℕ → ℕ → ℤ
stepped from from_other to to_other bits place =
    if bit_at bits place == 1
    then over (slice_index_or from place (pos 0)) (slice_index_or from_other place (pos 0))
    else under (slice_index_or to place (pos 0)) (slice_index_or to_other place (pos 0))

-- the same where the place's bit of a class is 1, and else the old number
abbrev pub step_or_old : List ℤ → List ℤ → List ℤ → List ℤ → List ℤ → ℕ → ℕ → ℕ → ℤ
step_or_old old from from_other to to_other bits class place =
    if bit_at class place == 1 then stepped from from_other to to_other bits place else slice_index_or old place (pos 0)

-- Four rows of this length: from the numbers of two, 1 may be added, and from those of the others it may be taken.
pub record AreBeside (n : ℕ) (from from_other to to_other : List ℤ) : Type 0 where
  pub from_length : length from ≡ n
  pub from_other_length : length from_other ≡ n
  pub to_length : length to ≡ n
  pub to_other_length : length to_other ≡ n
  pub from_fits : All (λ z. FitsSigned w32 (z +ℤ pos 1)) from
  pub from_other_fits : All (λ z. FitsSigned w32 (z +ℤ pos 1)) from_other
  pub to_fits : All (λ z. FitsSigned w32 (z -ℤ pos 1)) to
  pub to_other_fits : All (λ z. FitsSigned w32 (z -ℤ pos 1)) to_other
