-- The rows of the bands of a cut.
use Rattle.std.proofs.Common.{◌≡◌, ◌⊎◌, inl, inr, ℕ, zero, suc, ◌+◌, ◌-◌, ◌<◌, ◌≤◌, List, [], ◌∷◌, ◌++◌, length, get_or, refl, sym, ◌∙◌, subst, arith, Some, length-append}
use Rattle.std.specs.Prelude.{slice_get}
use Rattle.std.proofs.Math.ListN.{get_or-append}
use Rattle.std.proofs.Math.Seq.{get_or-append_seam}
use Rattle.std.proofs.lemmas.Bool.{cases_lt, cases_order}
use Rattle.std.proofs.lemmas.List.{get_or_default, get_or_past}
use Rattle.std.proofs.lemmas.Option.{get_or_from_slice_get}
use Rattle.tl_bands.specs.Cuts.{IsCut, IsInBand, AreParted, end_of}

pub some_band : (firsts : List ℕ) → slice_get firsts 0 ≡ Some 0 → 0 < length firsts
some_band [] e = cc e
some_band (x ∷ xs) e = omega arith

at_0 : (firsts : List ℕ) (d : ℕ) → slice_get firsts 0 ≡ Some 0 → get_or firsts 0 d ≡ 0
at_0 firsts d e = get_or_from_slice_get firsts 0 0 d e

module _ (rows : ℕ) (firsts : List ℕ) (cut : IsCut rows firsts) where
  -- a band that isn't the last one ends where the next one begins
  pub before_next : (j : ℕ) → j + 1 < length firsts → get_or firsts j 0 < get_or firsts (j + 1) 0
  before_next j near =
      subst (λ n. get_or firsts j 0 < n) (get_or_default firsts (j + 1) rows 0 near) (cut.has_row j (omega (arith, near)))

  -- a band that is k bands after another begins k rows after it, or more
  later : (i k : ℕ) → i + k < length firsts → get_or firsts i 0 + k ≤ get_or firsts (i + k) 0
  later i zero near = let e : i ≡ i + 0 = omega arith in subst (λ n. get_or firsts i 0 + 0 ≤ get_or firsts n 0) e (omega arith)
  later i (suc k) near =
      let before : get_or firsts i 0 + k ≤ get_or firsts (i + k) 0 = later i k (omega (arith, near)) in
      let next : get_or firsts (i + k) 0 < get_or firsts (i + k + 1) 0 = before_next (i + k) (omega (arith, near)) in
      let e : i + k + 1 ≡ i + suc k = omega arith in
      subst (λ n. get_or firsts i 0 + suc k ≤ get_or firsts n 0) e (omega (arith, before, next))

  -- each band begins before the last row's end
  pub below_rows : (j : ℕ) → j < length firsts → get_or firsts j 0 < rows
  below_rows j near = go (length firsts) refl near
    where
      go : (n : ℕ) → length firsts ≡ n → j < n → get_or firsts j 0 < rows
      go zero e h = absurd (omega (arith, h))
      go (suc k) e h =
          let at : j + (k - j) ≡ k = omega (arith, h) in
          let within : j + (k - j) < length firsts = omega (arith, at, e) in
          let far : get_or firsts j 0 + (k - j) ≤ get_or firsts k 0 =
          subst (λ n. get_or firsts j 0 + (k - j) ≤ get_or firsts n 0) at (later j (k - j) within) in
          let end : get_or firsts k 0 < rows =
          subst (λ n. get_or firsts k 0 < n) (get_or_past firsts (k + 1) rows (omega (arith, e))) (cut.has_row k (omega (arith, e))) in
          omega (arith, far, end)

  -- there are no more bands than rows
  pub few_bands : length firsts ≤ rows
  few_bands = go (length firsts) refl
    where
      go : (n : ℕ) → length firsts ≡ n → length firsts ≤ rows
      go zero e = omega (arith, e)
      go (suc k) e =
          let far : get_or firsts 0 0 + k ≤ get_or firsts (0 + k) 0 = later 0 k (omega (arith, e)) in
          let end : get_or firsts (0 + k) 0 < rows = below_rows (0 + k) (omega (arith, e)) in
          omega (arith, far, end, e)

  -- what comes before the first row of band k is in a band before it
  in_earlier : (k r : ℕ) → k ≤ length firsts → r < get_or firsts k rows → (j : ℕ) × IsInBand rows firsts j r
  in_earlier zero r near h = absurd (let e : get_or firsts 0 rows ≡ 0 = at_0 firsts rows cut.begins in omega (arith, e, h))
  in_earlier (suc k) r near h = go (cases_lt r (get_or firsts k rows)) (λ before. in_earlier k r (omega (arith, near)) before)
    where
      go : (r < get_or firsts k rows) ⊎ (get_or firsts k rows ≤ r) → (r < get_or firsts k rows → (j : ℕ) × IsInBand rows firsts j r) → (j : ℕ) × IsInBand rows firsts j r
      go (inl before) earlier = earlier before
      go (inr from) earlier =
          let here : k < length firsts = omega (arith, near) in
          let next : suc k ≡ k + 1 = omega arith in
          (k, (here, subst (λ n. n ≤ r) (get_or_default firsts k rows 0 here) from, subst (λ n. r < get_or firsts n rows) next h))

  -- a band after another has none of its rows
  apart : (r i j : ℕ) → i < j → IsInBand rows firsts i r → IsInBand rows firsts j r → ⊥
  apart r i j h p q =
      let near : i + 1 < length firsts = omega (arith, h, q.0) in
      let at : i + 1 + (j - (i + 1)) ≡ j = omega (arith, h) in
      let far : get_or firsts (i + 1) 0 + (j - (i + 1)) ≤ get_or firsts j 0 =
      subst (λ n. get_or firsts (i + 1) 0 + (j - (i + 1)) ≤ get_or firsts n 0) at (later (i + 1) (j - (i + 1)) (omega (arith, at, q.0))) in
      let end : r < get_or firsts (i + 1) 0 = subst (λ n. r < n) (get_or_default firsts (i + 1) rows 0 near) p.2 in
      omega (arith, far, end, q.1)

  end_within : (r j : ℕ) → IsInBand rows firsts j r → r < rows
  end_within r j p = go (cases_lt (j + 1) (length firsts))
    where
      go : (j + 1 < length firsts) ⊎ (length firsts ≤ j + 1) → r < rows
      go (inl near) =
          let end : r < get_or firsts (j + 1) 0 = subst (λ n. r < n) (get_or_default firsts (j + 1) rows 0 near) p.2 in
          omega (arith, end, below_rows (j + 1) near)
      go (inr last) = subst (λ n. r < n) (get_or_past firsts (j + 1) rows last) p.2

  of_one_band : (r i j : ℕ) → IsInBand rows firsts i r → IsInBand rows firsts j r → i ≡ j
  of_one_band r i j p q = go (cases_order i j)
    where
      go : (i ≡ j) ⊎ ((i < j) ⊎ (j < i)) → i ≡ j
      go (inl e) = e
      go (inr (inl before)) = absurd (apart r i j before p q)
      go (inr (inr after)) = absurd (apart r j i after q p)

  of_some_band : (r : ℕ) → r < rows → (j : ℕ) × IsInBand rows firsts j r
  of_some_band r h =
      let end : get_or firsts (length firsts) rows ≡ rows = get_or_past firsts (length firsts) rows (omega arith) in
      in_earlier (length firsts) r (omega arith) (omega (arith, end, h))

  pub parted : AreParted rows firsts
  parted = record { in_one = of_some_band; in_no_other = of_one_band; no_more = end_within }

-- ---- one band more, with the rows from n up to m

end-more : (n m : ℕ) (firsts : List ℕ) (j : ℕ) → j < length firsts → end_of m (firsts ++ n ∷ []) j ≡ end_of n firsts j
end-more n m firsts j near = go (cases_lt (j + 1) (length firsts))
  where
    go : (j + 1 < length firsts) ⊎ (length firsts ≤ j + 1) → end_of m (firsts ++ n ∷ []) j ≡ end_of n firsts j
    go (inl h) = get_or-append firsts (n ∷ []) m (j + 1) h ∙ get_or_default firsts (j + 1) m n h
    go (inr h) =
        let e : length firsts ≡ j + 1 = omega (arith, near, h) in
        subst (λ k. get_or (firsts ++ n ∷ []) k m ≡ n) e (get_or-append_seam firsts n [] m) ∙ sym (get_or_past firsts (j + 1) n h)

begins-more : (n : ℕ) (firsts : List ℕ) → slice_get firsts 0 ≡ Some 0 → slice_get (firsts ++ n ∷ []) 0 ≡ Some 0
begins-more n [] e = cc e
begins-more n (x ∷ xs) e = e

pub one_more : (n m : ℕ) (firsts : List ℕ) → IsCut n firsts → n < m → IsCut m (firsts ++ n ∷ [])
one_more n m firsts cut h = record { begins = begins-more n firsts cut.begins; has_row = λ j near. go j near (cases_lt j (length firsts)) }
  where
    go : (j : ℕ) → j < length (firsts ++ n ∷ []) → (j < length firsts) ⊎ (length firsts ≤ j) → get_or (firsts ++ n ∷ []) j 0 < end_of m (firsts ++ n ∷ []) j
    go j near (inl earlier) =
        let a : get_or (firsts ++ n ∷ []) j 0 ≡ get_or firsts j 0 = get_or-append firsts (n ∷ []) 0 j earlier in
        let b : end_of m (firsts ++ n ∷ []) j ≡ end_of n firsts j = end-more n m firsts j earlier in
        omega (arith, a, b, cut.has_row j earlier)
    go j near (inr last) =
        let long : length (firsts ++ n ∷ []) ≡ length firsts + 1 = length-append firsts (n ∷ []) in
        let e : length firsts ≡ j = omega (arith, long, near, last) in
        let a : get_or (firsts ++ n ∷ []) j 0 ≡ n = subst (λ k. get_or (firsts ++ n ∷ []) k 0 ≡ n) e (get_or-append_seam firsts n [] 0) in
        let b : end_of m (firsts ++ n ∷ []) j ≡ m = get_or_past (firsts ++ n ∷ []) (j + 1) m (omega (arith, long, e)) in
        omega (arith, a, b, h)

pub one_alone : (m : ℕ) → 0 < m → IsCut m (0 ∷ [])
one_alone m h = record { begins = refl; has_row = go }
  where
    go : (j : ℕ) → j < 1 → get_or (0 ∷ []) j 0 < end_of m (0 ∷ []) j
    go zero near = h
    go (suc j) near = absurd (omega (arith, near))
