-- An even cut is a cut.
use Rattle.std.proofs.Common.{append-nil, ◌≡◌, ◌⊎◌, inl, inr, ℕ, ◌+◌, ◌*◌, ◌/◌, ◌<◌, ◌≤◌, Bool, true, false, cond, List, [], ◌∷◌, ◌++◌, map, refl, sym, ◌∙◌, ap, subst, arith}
use Rattle.std.specs.Prelude.{filter}
use Rattle.std.proofs.Math.Nat.{div-mul-le_self, mul-div_cancel_left}
use Rattle.std.proofs.lemmas.List.{map-append}
use Rattle.std.proofs.lemmas.List.Elements.{filter-append}
use Rattle.std.proofs.lemmas.Nat.{le-div, mul-le, div_below}
use Rattle.std.proofs.lemmas.Bool.{lt-ltb, ltb-true, false_from_ne_true}
use Rattle.tl_lists.specs.Lists.{upto}
use Rattle.tl_lists.proofs.Members.{upto_more}
use Rattle.tl_bands.specs.Cuts.{IsCut, share, share_has_row}
use Rattle.tl_bands.proofs.Bands.{one_more, one_alone}

-- no share ends before it begins
rising : (rows bands j : ℕ) → 0 < bands → share rows bands j ≤ share rows bands (j + 1)
rising rows bands j some =
    let low : j * rows / bands * bands ≤ j * rows = div-mul-le_self (j * rows) bands in
    let more : j * rows ≤ (j + 1) * rows = mul-le j rows (j + 1) rows (omega arith) (omega arith) in
    le-div (j * rows / bands) ((j + 1) * rows) bands some (omega (arith, low, more))

share-0 : (rows bands : ℕ) → 0 < bands → share rows bands 0 ≡ 0
share-0 rows bands some = let below : 0 * rows / bands < 1 = div_below (0 * rows) bands 1 some (omega (arith, some)) in omega (arith, below)

-- the shares end at the last row
share-all : (rows bands : ℕ) → 0 < bands → share rows bands bands ≡ rows
share-all rows bands some = mul-div_cancel_left rows some

-- the first rows of the shares below k that have a row
abbrev pub firsts_below : ℕ → ℕ → ℕ → List ℕ
firsts_below rows bands k = map (share rows bands) (filter (share_has_row rows bands) (upto k))

-- these cut the rows of those shares, if there are any
abbrev pub CutsBelow : ℕ → List ℕ → Type 0
CutsBelow n firsts = ((n ≡ 0) × (firsts ≡ [])) ⊎ IsCut n firsts

module _ (rows bands : ℕ) (some : 0 < bands) where
  below-more : (k : ℕ) (b : Bool) → share_has_row rows bands k ≡ b
      → firsts_below rows bands (k + 1) ≡ firsts_below rows bands k ++ map (share rows bands) (cond b (k ∷ []) [])
  below-more k b e =
      ap (λ (l : List ℕ). map (share rows bands) (filter (share_has_row rows bands) l)) (upto_more k)
      ∙ (ap (λ (l : List ℕ). map (share rows bands) l) (filter-append (share_has_row rows bands) (upto k) (k ∷ []))
      ∙ (map-append (share rows bands) (filter (share_has_row rows bands) (upto k)) (filter (share_has_row rows bands) (k ∷ []))
      ∙ ap (λ (t : Bool). firsts_below rows bands k ++ map (share rows bands) (cond t (k ∷ []) [])) e))

  -- a share with a row is one band more
  pub firsts_more : (k : ℕ) (firsts : List ℕ) → firsts ≡ firsts_below rows bands k → share rows bands k < share rows bands (k + 1)
      → firsts ++ share rows bands k ∷ [] ≡ firsts_below rows bands (k + 1)
  firsts_more k firsts e h =
      ap (λ (l : List ℕ). l ++ share rows bands k ∷ []) e ∙ sym (below-more k true (lt-ltb (share rows bands k) (share rows bands (k + 1)) h))

  pub cuts_more : (k : ℕ) (firsts : List ℕ) → CutsBelow (share rows bands k) firsts → share rows bands k < share rows bands (k + 1)
      → CutsBelow (share rows bands (k + 1)) (firsts ++ share rows bands k ∷ [])
  cuts_more k firsts (inr cut) h = inr (one_more (share rows bands k) (share rows bands (k + 1)) firsts cut h)
  cuts_more k firsts (inl (e, none)) h =
      let one : 0 ∷ [] ≡ firsts ++ share rows bands k ∷ [] = sym (ap (λ (l : List ℕ). l ++ share rows bands k ∷ []) none ∙ ap (λ (n : ℕ). n ∷ []) e) in
      inr (subst (λ (l : List ℕ). IsCut (share rows bands (k + 1)) l) one (one_alone (share rows bands (k + 1)) (omega (arith, h))))

  -- a share without one changes nothing
  pub firsts_same : (k : ℕ) (firsts : List ℕ) → firsts ≡ firsts_below rows bands k → share rows bands (k + 1) ≤ share rows bands k
      → firsts ≡ firsts_below rows bands (k + 1)
  firsts_same k firsts e h =
      e ∙ (sym (append-nil (firsts_below rows bands k))
      ∙ sym (below-more k false (false_from_ne_true (share_has_row rows bands k) (λ t. let less = ltb-true (share rows bands k) (share rows bands (k + 1)) t in omega (arith, less, h)))))

  pub cuts_same : (k : ℕ) (firsts : List ℕ) → CutsBelow (share rows bands k) firsts → share rows bands (k + 1) ≤ share rows bands k
      → CutsBelow (share rows bands (k + 1)) firsts
  cuts_same k firsts cuts h =
      let e : share rows bands k ≡ share rows bands (k + 1) = let up = rising rows bands k some in omega (arith, up, h) in
      subst (λ (n : ℕ). CutsBelow n firsts) e cuts

  pub cuts_none : CutsBelow (share rows bands 0) []
  cuts_none = inl (share-0 rows bands some, refl)

  pub cuts_all : (firsts : List ℕ) → 0 < rows → CutsBelow (share rows bands bands) firsts → IsCut rows firsts
  cuts_all firsts row (inl (e, none)) = absurd (let all = share-all rows bands some in omega (arith, e, all, row))
  cuts_all firsts row (inr cut) = subst (λ (n : ℕ). IsCut n firsts) (share-all rows bands some) cut
