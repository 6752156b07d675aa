-- Cuts of few rows, and lists that are near to one.
use Rattle.std.proofs.Common.{◌≡◌, ◌≢◌, inl, inr, ℕ, zero, suc, ◌<◌, ◌≤◌, List, [], ◌∷◌, get_or, refl, arith}
use Rattle.tl_bands.specs.Cuts.{IsCut, AreParted, IsInBand, IsFirstRow, IsBadFirst, end_of, even_firsts}
use Rattle.tl_bands.proofs.Bands.{parted}
use Rattle.tl_bands.proofs.Firsts.{cut_or_bad, one_bad}

abbrev two_bands : List ℕ
two_bands = 0 ∷ 2 ∷ []

-- ---- cuts

two_bands_cut_3_rows : IsCut 3 two_bands
two_bands_cut_3_rows = record { begins = refl; has_row = go }
  where
    go : (j : ℕ) → j < 2 → get_or two_bands j 0 < end_of 3 two_bands j
    go zero h = omega arith
    go (suc zero) h = omega arith
    go (suc (suc j)) h = absurd (omega (arith, h))

-- the last band would have no row
not_2_rows : IsCut 2 two_bands → ⊥
not_2_rows cut = let h : 2 < 2 = cut.has_row 1 (omega arith) in omega (arith, h)

no_bands : (rows : ℕ) → IsCut rows [] → ⊥
no_bands rows cut = cc cut.begins

from_row_1 : IsCut 3 (1 ∷ 2 ∷ []) → ⊥
from_row_1 cut = cc cut.begins

a_band_without_a_row : IsCut 3 (0 ∷ 0 ∷ []) → ⊥
a_band_without_a_row cut = let h : 0 < 0 = cut.has_row 0 (omega arith) in omega (arith, h)

-- ---- rows of bands

row_1_is_in_band_0 : IsInBand 3 two_bands 0 1
row_1_is_in_band_0 = (omega arith, omega arith, omega arith)

row_2_is_not : IsInBand 3 two_bands 0 2 → ⊥
row_2_is_not h = let end : 2 < 2 = h.2 in omega (arith, end)

two_bands_part_3_rows : AreParted 3 two_bands
two_bands_part_3_rows = parted 3 two_bands two_bands_cut_3_rows

-- row 0 is in no band
from_row_1_parts_none : AreParted 3 (1 ∷ 2 ∷ []) → ⊥
from_row_1_parts_none parts = none (parts.in_one 0 (omega arith))
  where
    none : (j : ℕ) × IsInBand 3 (1 ∷ 2 ∷ []) j 0 → ⊥
    none (zero, h) = let low : 1 ≤ 0 = h.1 in omega (arith, low)
    none (suc zero, h) = let low : 2 ≤ 0 = h.1 in omega (arith, low)
    none (suc (suc j), h) = let near : suc (suc j) < 2 = h.0 in omega (arith, near)

-- ---- even cuts

one_row_each : even_firsts 3 7 ≡ 0 ∷ 1 ∷ 2 ∷ []
one_row_each = refl

rounded_down : even_firsts 10 4 ≡ 0 ∷ 2 ∷ 5 ∷ 7 ∷ []
rounded_down = refl

one_band : even_firsts 1025 1 ≡ 0 ∷ []
one_band = refl

not_rounded_up : even_firsts 10 4 ≢ 0 ∷ 3 ∷ 5 ∷ 8 ∷ []
not_rounded_up e = cc e

-- ---- lists that are no cut

row_3_is_none_of_3 : IsBadFirst 3 (0 ∷ 3 ∷ []) 1
row_3_is_none_of_3 = record { listed = inr (omega arith); bad = λ h. let below : 3 < 3 = h.1 in omega (arith, below); earlier = go }
  where
    go : (k : ℕ) → k < 1 → IsFirstRow 3 (0 ∷ 3 ∷ []) k
    go zero h = (omega arith, omega arith, refl)
    go (suc k) h = absurd (omega (arith, h))

number_0_is_good : IsBadFirst 3 (0 ∷ 3 ∷ []) 0 → ⊥
number_0_is_good h = h.bad (omega arith, omega arith, refl)

the_empty_list : IsBadFirst 3 [] 0
the_empty_list = record { listed = inl refl; bad = λ h. let near : 0 < 0 = h.0 in omega (arith, near); earlier = λ k h. absurd (omega (arith, h)) }

not_number_1 : IsBadFirst 3 [] 1 → ⊥
not_number_1 h = let e : 0 ≡ 1 = one_bad 3 [] 0 1 the_empty_list h in omega (arith, e)

-- the second of two bad ones
not_the_second : IsBadFirst 3 (0 ∷ 0 ∷ 0 ∷ []) 2 → ⊥
not_the_second h = let follows : 0 < 0 = (h.earlier 1 (omega arith)).2 in omega (arith, follows)

none_of_a_cut : (i : ℕ) → IsBadFirst 3 two_bands i → ⊥
none_of_a_cut = cut_or_bad 3 two_bands two_bands_cut_3_rows
