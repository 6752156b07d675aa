-- Refused regions, each by the first rule that it breaks.
use Rattle.std.proofs.Common.{◌≡◌, ℕ, ◌⊎◌, true, false, ◌||◌, List, [], ◌∷◌, inl, inr, refl, sym, subst, arith, codes}
use Rattle.std.specs.Prelude.{IsTrue}
use Rattle.tl_definitions.specs.declared.Kind.TheVariants.{Square}
use Rattle.tl_definitions.specs.declared.Cell.{Cell}
use Rattle.tl_definitions.specs.Lattice.{cell, cell_eq, cell_lt, corner}
use Rattle.tl_definitions.specs.Region.{Region}
use Rattle.tl_definitions.specs.Accepted.{AreJoined, IsFirstParted}
use Rattle.tl_formats.specs.RegionText.{region_of, IsRefusedText, bad_header, bad_byte, empty, parts, pinch, hole}
use Rattle.tl_definitions.proofs.Decide.{one_part, parted}
use Rattle.tl_definitions.proofs.Cells.{cell_eq-same}
use Rattle.tl_definitions.proofs.Joined.{joined_here}
use Rattle.std.proofs.lemmas.Bool.{or_cases}

no_header : IsRefusedText [] bad_header
no_header = inl refl

a_bad_byte : IsRefusedText (codes "square" ∷ codes "#x" ∷ []) (bad_byte (cell 0 1))
a_bad_byte = inl refl

no_cell : IsRefusedText (codes "square" ∷ codes ".." ∷ []) empty
no_cell = inr (region_of Square (codes ".." ∷ []), refl, refl)

abbrev bent_rows : List (List ℕ)
bent_rows = codes "###" ∷ codes "#.#" ∷ codes "##." ∷ []

abbrev bent : Region
bent = region_of Square bent_rows

a_pinch : IsRefusedText (codes "square" ∷ bent_rows) (pinch (corner 2 2))
a_pinch = inr (bent, refl, ((λ e. cc e), one_part bent 8 (cell 0 0) refl refl, refl))

abbrev frame_rows : List (List ℕ)
frame_rows = codes "###" ∷ codes "#.#" ∷ codes "###" ∷ []

abbrev frame : Region
frame = region_of Square frame_rows

apart : (n : ℕ) → n ≡ 24 → n ≡ 25 → ⊥
apart n e f = omega (arith, e, f)

a_hole : IsRefusedText (codes "square" ∷ frame_rows) hole
a_hole = inr (frame, refl, ((λ e. cc e), one_part frame 8 (cell 0 0) refl refl, refl, λ e. apart 24 refl e.1))

abbrev apart_rows : List (List ℕ)
apart_rows = codes "#." ∷ codes ".#" ∷ []

abbrev two_parts : Region
two_parts = region_of Square apart_rows

first_parted : IsFirstParted two_parts (cell 1 1)
first_parted = record {
  start = cell 0 0;
  is_start = refl;
  inside = refl;
  parted = parted two_parts (cell 0 0 ∷ []) (cell 0 0) (cell 1 1) refl refl refl;
  earlier = λ b h l. before b (or_cases _ _ h) l;
}
  where
    before : (b : Cell) → (cell_eq b (cell 0 0) ≡ true) ⊎ ((cell_eq b (cell 1 1) || false) ≡ true) → IsTrue (cell_lt b (cell 1 1)) → AreJoined two_parts (cell 0 0) b
    before b (inl e) l = subst (λ c. AreJoined two_parts (cell 0 0) c) (sym (cell_eq-same b (cell 0 0) e)) (joined_here two_parts (cell 0 0) refl)
    before b (inr e) l = absurd (not_before b (or_cases (cell_eq b (cell 1 1)) false e) l)
      where
        not_before : (b : Cell) → (cell_eq b (cell 1 1) ≡ true) ⊎ (false ≡ true) → IsTrue (cell_lt b (cell 1 1)) → ⊥
        not_before b (inl f) l = no (subst (λ c. IsTrue (cell_lt c (cell 1 1))) (cell_eq-same b (cell 1 1) f) l)
          where
            no : false ≡ true → ⊥
            no g = cc g
        not_before b (inr f) l = cc f

-- the second cell is another part, although a corner is a pinch as well
in_parts : IsRefusedText (codes "square" ∷ apart_rows) (parts (cell 1 1))
in_parts = inr (two_parts, refl, first_parted)
