-- Items one below the other.
use Rattle.std.proofs.Common.{◌≡◌, ℕ, zero, suc, ◌+◌, ◌-◌, ◌<◌, ◌≤◌, ◌⊎◌, inl, inr, List, [], ◌∷◌, length, get_or, set, sym, ◌∙◌, ap, subst, arith}
use Rattle.std.proofs.lemmas.Bool.{cases_eq, cases_lt}
use Rattle.std.proofs.lemmas.List.{get_or-set_other, get_or-set_same}
use Rattle.std.proofs.lemmas.List.Elements.{All-set}
use Rattle.std.proofs.Math.ListN.{length-set}
use Rattle.std.specs.Prelude.{All}
use Rattle.tl_layout.specs.declared.layout.Layout.{Layout}
use Rattle.tl_band.specs.declared.band.Band.{Band}
use Rattle.tl_band.specs.Bands.{IsPlacedIn}
use Rattle.tl_crew.specs.Bands.{AreBandsIn, AreSameBands, AreSharesIn, AreStacked, IsShareIn}
use Rattle.tl_crew.specs.declared.share.Share.{Share}

module _ {T : Type 0} (first_of end_of : T → ℕ) where
  -- the row is one of this item
  abbrev pub IsIn : List T → T → ℕ → ℕ → Type 0
  IsIn items d k row = (first_of (get_or items k d) ≤ row) × (row < end_of (get_or items k d))

  module _ (first end : ℕ) (items : List T) (stacked : AreStacked first_of end_of first end items) (d : T) where
    -- a row from the first to before the end of item j is in one of the items up to it
    in-some : (j : ℕ) → j < length items → (row : ℕ) → first ≤ row → row < end_of (get_or items j d) → (k : ℕ) × (k < j + 1) × IsIn items d k row
    in-some zero within row above below = (zero, omega arith, (omega (arith, above, stacked.begins d), below))
    in-some (suc j) within row above below = go (cases_lt row (end_of (get_or items j d))) (in-some j (omega (arith, within)) row above)
      where
        go : (row < end_of (get_or items j d)) ⊎ (end_of (get_or items j d) ≤ row)
            → (row < end_of (get_or items j d) → (k : ℕ) × (k < j + 1) × IsIn items d k row) → (k : ℕ) × (k < suc j + 1) × IsIn items d k row
        go (inl h) earlier = let (k, up_to, is) = earlier h in (k, omega (arith, up_to), is)
        go (inr h) earlier =
            let e : j + 1 ≡ suc j = omega arith in
            let own : first_of (get_or items (suc j) d) ≡ end_of (get_or items j d) =
            subst (λ (n : ℕ). first_of (get_or items n d) ≡ end_of (get_or items j d)) e (stacked.next j d (omega (arith, within))) in
            (suc j, omega arith, (omega (arith, own, h), below))

    -- each row is in some item
    pub row-in_some : (row : ℕ) → first ≤ row → row < end → (k : ℕ) × (k < length items) × IsIn items d k row
    row-in_some row above below =
        let (k, up_to, is) = in-some (length items - 1) (omega (arith, stacked.some)) row above (omega (arith, stacked.ends d, below)) in
        (k, omega (arith, up_to, stacked.some), is)

    -- the ends of the items rise
    ends-rise : (j k : ℕ) → j < length items → k ≤ j → end_of (get_or items k d) ≤ end_of (get_or items j d)
    ends-rise zero k within up_to = let e : zero ≡ k = omega (arith, up_to) in subst (λ (n : ℕ). end_of (get_or items n d) ≤ end_of (get_or items zero d)) e (omega arith)
    ends-rise (suc j) k within up_to = go (cases_lt k (suc j)) (λ before. ends-rise j k (omega (arith, within)) (omega (arith, before)))
      where
        go : (k < suc j) ⊎ (suc j ≤ k) → (k < suc j → end_of (get_or items k d) ≤ end_of (get_or items j d)) → end_of (get_or items k d) ≤ end_of (get_or items (suc j) d)
        go (inr h) earlier =
            let e : suc j ≡ k = omega (arith, up_to, h) in subst (λ (n : ℕ). end_of (get_or items n d) ≤ end_of (get_or items (suc j) d)) e (omega arith)
        go (inl h) earlier =
            let e : j + 1 ≡ suc j = omega arith in
            let own : first_of (get_or items (suc j) d) ≡ end_of (get_or items j d) =
            subst (λ (n : ℕ). first_of (get_or items n d) ≡ end_of (get_or items j d)) e (stacked.next j d (omega (arith, within))) in
            let row = stacked.has_row (suc j) d within in
            omega (arith, earlier h, own, row)

    pub item-end : (k : ℕ) → k < length items → end_of (get_or items k d) ≤ end
    item-end k within = omega (arith, ends-rise (length items - 1) k (omega (arith, within)) (omega (arith, within)), stacked.ends d)

    -- the firsts rise too
    firsts-rise : (k : ℕ) → k < length items → first ≤ first_of (get_or items k d)
    firsts-rise zero within = omega (arith, stacked.begins d)
    firsts-rise (suc k) within =
        let e : k + 1 ≡ suc k = omega arith in
        let own : first_of (get_or items (suc k) d) ≡ end_of (get_or items k d) =
        subst (λ (n : ℕ). first_of (get_or items n d) ≡ end_of (get_or items k d)) e (stacked.next k d (omega (arith, within))) in
        omega (arith, firsts-rise k (omega (arith, within)), own, stacked.has_row k d (omega (arith, within)))

    pub item-first : (k : ℕ) → k < length items → first ≤ first_of (get_or items k d)
    item-first k within = firsts-rise k within

    pub rows-some : first < end
    rows-some = omega (arith, item-end 0 stacked.some, stacked.has_row 0 d stacked.some, stacked.begins d)

-- as many items, with the same rows
pub stacked-same : {T : Type 0} (first_of end_of : T → ℕ) (first end : ℕ) (old new : List T) → length new ≡ length old
    → ((j : ℕ) (d : T) → j < length old → first_of (get_or new j d) ≡ first_of (get_or old j d))
    → ((j : ℕ) (d : T) → j < length old → end_of (get_or new j d) ≡ end_of (get_or old j d))
    → AreStacked first_of end_of first end old → AreStacked first_of end_of first end new
stacked-same first_of end_of first end old new count firsts ends stacked = record {
  some = omega (arith, count, stacked.some);
  has_row = λ j d within.
      let inside : j < length old = omega (arith, within, count) in
      omega (arith, firsts j d inside, ends j d inside, stacked.has_row j d inside);
  begins = λ d. firsts 0 d stacked.some ∙ stacked.begins d;
  next = λ j d within.
      let inside : j + 1 < length old = omega (arith, within, count) in
      firsts (j + 1) d inside ∙ (stacked.next j d inside ∙ sym (ends j d (omega (arith, inside))));
  ends = λ d.
      let last : length new - 1 ≡ length old - 1 = omega (arith, count) in
      subst (λ (k : ℕ). end_of (get_or new k d) ≡ end) (sym last) (ends (length old - 1) d (omega (arith, stacked.some)) ∙ stacked.ends d);
}

-- words stand below the rows of bands
pub bands-end : (l : Layout) (first end : ℕ) (bands : List Band) → AreBandsIn l first end bands → end ≤ l.height
bands-end l first end bands are = go bands are
  where
    go : (bands : List Band) → AreBandsIn l first end bands → end ≤ l.height
    go [] none = absurd (omega (arith, none.stacked.some))
    go (b ∷ more) some =
        let last = some.each (length (b ∷ more) - 1) b (omega (arith, some.stacked.some)) in
        omega (arith, last.end, some.stacked.ends b)

pub bands-same : (l : Layout) (first end : ℕ) (old new : List Band) → AreBandsIn l first end old → AreSameBands old new → All (IsPlacedIn l) new → AreBandsIn l first end new
bands-same l first end old new are same placed = record {
  each = placed;
  stacked =
      stacked-same (λ (b : Band). b.upper.own) (λ (b : Band). b.lower.beside) first end old new same.count (λ j d within. (same.each j d within).upper_own)
      (λ j d within. (same.each j d within).lower_beside) are.stacked;
}

-- ---- the bands of hands

pub shares-same : {T : Type 0} (share_of : T → Share) (l : Layout) (old new : List T) → AreSharesIn share_of l old → length new ≡ length old
    → ((j : ℕ) (d : T) → j < length old → (share_of (get_or new j d)).first ≡ (share_of (get_or old j d)).first)
    → ((j : ℕ) (d : T) → j < length old → (share_of (get_or new j d)).end ≡ (share_of (get_or old j d)).end)
    → All (λ t. IsShareIn l (share_of t)) new → AreSharesIn share_of l new
shares-same share_of l old new are count firsts ends each = record {
  each = each;
  stacked = stacked-same (λ t. (share_of t).first) (λ t. (share_of t).end) 1 (l.height - 2) old new count firsts ends are.stacked;
}

-- another hand in the place of one, with the same rows
pub shares-put : {T : Type 0} (share_of : T → Share) (l : Layout) (items : List T) (j : ℕ) (t : T) → AreSharesIn share_of l items → j < length items
    → ((d : T) → (share_of t).first ≡ (share_of (get_or items j d)).first) → ((d : T) → (share_of t).end ≡ (share_of (get_or items j d)).end)
    → IsShareIn l (share_of t) → AreSharesIn share_of l (set items j t)
shares-put {T} share_of l items j t are within first end is =
    shares-same share_of l items (set items j t) are (length-set items j t) (put (λ s. s.first) first) (put (λ s. s.end) end)
    (All-set (λ s. IsShareIn l (share_of s)) items j t is are.each)
  where
    put : (row : Share → ℕ) → ((d : T) → row (share_of t) ≡ row (share_of (get_or items j d)))
        → (k : ℕ) (d : T) → k < length items → row (share_of (get_or (set items j t) k d)) ≡ row (share_of (get_or items k d))
    put row same k d inside = go (cases_eq k j)
      where
        go : (k ≡ j) ⊎ ((k ≡ j) → ⊥) → row (share_of (get_or (set items j t) k d)) ≡ row (share_of (get_or items k d))
        go (inl e) =
            subst (λ (n : ℕ). row (share_of (get_or (set items j t) n d)) ≡ row (share_of (get_or items n d))) (sym e)
            (ap (λ s. row (share_of s)) (get_or-set_same items j t d within) ∙ same d)
        go (inr n) = ap (λ s. row (share_of s)) (get_or-set_other items j k t d n)
