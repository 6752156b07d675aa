-- Lists of rows that are cuts, and those that aren't.
use Rattle.std.proofs.Common.{◌≡◌, ◌⊎◌, inl, inr, ℕ, zero, suc, ◌+◌, ◌<◌, ◌≤◌, false, List, [], ◌∷◌, length, get_or, sym, ◌∙◌, ap, subst, arith, Some}
use Rattle.std.specs.Prelude.{◌==◌}
use Rattle.std.proofs.lemmas.Bool.{cases_lt, cases_order}
use Rattle.std.proofs.lemmas.List.{get_or_default, get_or_past}
use Rattle.std.proofs.lemmas.Option.{slice_get-get_or}
use Rattle.tl_bands.specs.Cuts.{IsCut, IsFirstRow, IsBadFirst, Follows, end_of}
use Rattle.tl_bands.proofs.Bands.{some_band, before_next, below_rows}

pub has_entry : (firsts : List ℕ) → (length firsts == 0) ≡ false → 0 < length firsts
has_entry [] e = cc e
has_entry (x ∷ xs) e = omega arith

-- ---- a list of such rows only is a cut, and the other way round

module _ (rows : ℕ) (firsts : List ℕ) where
  pub cut_of : 0 < length firsts → ((k : ℕ) → k < length firsts → IsFirstRow rows firsts k) → IsCut rows firsts
  cut_of some each = record {
    begins = slice_get-get_or firsts 0 0 some ∙ ap (λ (n : ℕ). Some n) (each 0 some).2;
    has_row = λ j near. go j near (cases_lt (j + 1) (length firsts));
  }
    where
      go : (j : ℕ) → j < length firsts → (j + 1 < length firsts) ⊎ (length firsts ≤ j + 1) → get_or firsts j 0 < end_of rows firsts j
      go j near (inl h) =
          let e : suc j ≡ j + 1 = omega arith in
          let next : get_or firsts j 0 < get_or firsts (j + 1) 0 = subst (λ n. get_or firsts j 0 < get_or firsts n 0) e (each (suc j) (omega (arith, h))).2 in
          subst (λ n. get_or firsts j 0 < n) (get_or_default firsts (j + 1) 0 rows h) next
      go j near (inr h) = subst (λ n. get_or firsts j 0 < n) (sym (get_or_past firsts (j + 1) rows h)) (each j near).1

  pub of_cut : IsCut rows firsts → (k : ℕ) → k < length firsts → IsFirstRow rows firsts k
  of_cut cut k near = (near, below_rows rows firsts cut k near, go k near)
    where
      go : (k : ℕ) → k < length firsts → Follows firsts k
      go zero h = let e : Some (get_or firsts 0 0) ≡ Some 0 = sym (slice_get-get_or firsts 0 0 h) ∙ cut.begins in cc e
      go (suc j) h =
          let e : j + 1 ≡ suc j = omega arith in
          subst (λ n. get_or firsts j 0 < get_or firsts n 0) e (before_next rows firsts cut j (omega (arith, h)))

  -- so a bad first row comes exactly where the list is no cut, and there is one such number
  pub cut_or_bad : IsCut rows firsts → (i : ℕ) → IsBadFirst rows firsts i → ⊥
  cut_or_bad cut i b = go b.listed
    where
      go : (i ≡ 0) ⊎ (i < length firsts) → ⊥
      go (inl e) = b.bad (of_cut cut i (let some = some_band firsts cut.begins in omega (arith, e, some)))
      go (inr h) = b.bad (of_cut cut i h)

  pub one_bad : (i j : ℕ) → IsBadFirst rows firsts i → IsBadFirst rows firsts j → i ≡ j
  one_bad i j p q = elim (cases_order i j) [ inl e ↦ e | inr h ↦ elim h [ inl before ↦ absurd (p.bad (q.earlier i before)) | inr after ↦ absurd (q.bad (p.earlier j after)) ] ]

  -- the row at a number is that number or more
  pub number_within : (k : ℕ) → ((i : ℕ) → i ≤ k → IsFirstRow rows firsts i) → k ≤ get_or firsts k 0
  number_within zero each = omega arith
  number_within (suc k) each =
      let before : k ≤ get_or firsts k 0 = number_within k (λ i h. each i (omega (arith, h))) in
      let next : get_or firsts k 0 < get_or firsts (suc k) 0 = (each (suc k) (omega arith)).2 in
      omega (arith, before, next)

  pub number_below : (k : ℕ) → ((i : ℕ) → i < k → IsFirstRow rows firsts i) → k ≤ rows
  number_below zero each = omega arith
  number_below (suc k) each =
      let within : k ≤ get_or firsts k 0 = number_within k (λ i h. each i (omega (arith, h))) in
      let below : get_or firsts k 0 < rows = (each k (omega arith)).1 in
      omega (arith, within, below)
