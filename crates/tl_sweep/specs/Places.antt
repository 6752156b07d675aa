-- What a step puts, by the places of the numbers that it reads.
use Rattle.std.specs.Prelude.{ℕ, ◌+◌, ◌-◌, ◌*◌, ◌/◌, ◌%◌, ◌==◌, Bool, ◌&&◌, if◌then◌else◌, List, slice_index_or, ℤ, pos, neg_ℤ, ◌+ℤ◌, ◌-ℤ◌, ◌≤ℤ◌, slice_range}
use Rattle.std.specs.Int.{bit_at}
use Rattle.tl_definitions.specs.Limits.{most_height}
use Rattle.tl_lanes.specs.Lanes.{greater, lesser}

abbrev pub at : List ℤ → ℕ → ℤ
at numbers place = slice_index_or numbers place (pos 0)

-- In rows of a width: beside a place are those to the right and to the left of it, and above and below it. On the square
-- lattice a step at a corner of class 0 reads the first two where it raises and the others where it lowers, and one at a
-- corner of class 1 the other way round.
abbrev pub square_stepped : List ℤ → ℕ → ℕ → Bool → Bool → ℤ
square_stepped numbers width p is_even bit =
    if bit
    then (if is_even then lesser (at numbers (p + 1)) (at numbers (p - 1)) else lesser (at numbers (p - width)) (at numbers (p + width))) +ℤ pos 1
    else (if is_even then greater (at numbers (p - width)) (at numbers (p + width)) else greater (at numbers (p - 1)) (at numbers (p + 1))) -ℤ pos 1

-- On the triangular lattice those from which steps come are two to the left, and those to the right above and below; those
-- to which steps go lie the other way round.
abbrev pub triangle_stepped : List ℤ → ℕ → ℕ → Bool → ℤ
triangle_stepped numbers width p bit =
    if bit
    then lesser (lesser (at numbers (p - width + 1)) (at numbers (p + width + 1))) (at numbers (p - 2)) +ℤ pos 1
    else greater (greater (at numbers (p + 2)) (at numbers (p - width - 1))) (at numbers (p + width - 1)) -ℤ pos 1

-- whether bit j of a word is 1
abbrev pub is_bit : ℕ → ℕ → Bool
is_bit word j = bit_at word j == 1

-- the number of place t of a part of a row: stepped, by the bit of every second place, where t has this remainder by 6
abbrev pub every_sixth : List ℤ → ℕ → ℕ → ℕ → ℕ → ℕ → ℤ
every_sixth numbers width start first bits t =
    if t % 6 == first then triangle_stepped numbers width (start + t) (is_bit bits (t / 2)) else at numbers (start + t)

-- the number of place j of a part of a row: stepped where the bit of a class is 1
abbrev pub by_class : List ℤ → ℕ → ℕ → Bool → ℕ → ℕ → ℕ → ℤ
by_class numbers width start is_even bits class j =
    if is_bit class j then square_stepped numbers width (start + j) is_even (is_bit bits j) else at numbers (start + j)

-- lawful heights are as small as this in a region within the limits
pub record IsSmall (z : ℤ) : Type 0 where
  pub low : neg_ℤ (pos most_height) ≤ℤ z
  pub high : z ≤ℤ pos most_height

abbrev pub AreSmall : List ℤ → Type 0
AreSmall numbers = (place : ℕ) → IsSmall (at numbers place)

-- so many numbers from a place on
abbrev pub window : List ℤ → ℕ → ℕ → List ℤ
window numbers start count = slice_range numbers start (start + count)
