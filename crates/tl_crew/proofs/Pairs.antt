-- One hand, or two, and their bands.
use Rattle.std.proofs.Common.{◌≡◌, ℕ, zero, suc, ◌+◌, ◌-◌, ◌<◌, List, [], ◌∷◌, ◌++◌, length, get_or, refl, sym, ◌∙◌, ap, subst, arith, append-nil, map}
use Rattle.std.specs.Prelude.{All}
use Rattle.std.specs.List.{flat_map}
use Rattle.tl_layout.specs.declared.layout.Layout.{Layout}
use Rattle.tl_crew.specs.Bands.{AreSharesIn, AreStacked, IsShareIn}
use Rattle.tl_crew.specs.declared.share.Share.{Share}
use Rattle.tl_crew.proofs.Stacked.{rows-some}
use Rattle.tl_crew.proofs.Stored.{some-item}
use Rattle.tl_band.specs.declared.band.Band.{Band}

All-one : {T : Type 0} (P : T → Type 0) (h : T) → P h → All P (h ∷ [])
All-one P h p zero d within = p
All-one P h p (suc k) d within = absurd (omega (arith, within))

All-two : {T : Type 0} (P : T → Type 0) (h k : T) → P h → P k → All P (h ∷ k ∷ [])
All-two P h k p q zero d within = p
All-two P h k p q (suc zero) d within = q
All-two P h k p q (suc (suc j)) d within = absurd (omega (arith, within))

module _ {T : Type 0} (first_of end_of : T → ℕ) where
  stacked-one : (h : T) (first end : ℕ) → first_of h ≡ first → end_of h ≡ end → first < end → AreStacked first_of end_of first end (h ∷ [])
  stacked-one h first end begins ends some = record {
    some = omega arith;
    has_row = row;
    begins = λ d. begins;
    next = λ j d within. absurd (omega (arith, within));
    ends = λ d. ends;
  }
    where
      row : (j : ℕ) (d : T) → j < length (h ∷ []) → first_of (get_or (h ∷ []) j d) < end_of (get_or (h ∷ []) j d)
      row zero d within = omega (arith, begins, ends, some)
      row (suc j) d within = absurd (omega (arith, within))

  stacked-two : (h k : T) (first middle end : ℕ) → first_of h ≡ first → end_of h ≡ middle → first_of k ≡ middle → end_of k ≡ end → first < middle → middle < end
      → AreStacked first_of end_of first end (h ∷ k ∷ [])
  stacked-two h k first middle end begins ends next last some more = record {
    some = omega arith;
    has_row = row;
    begins = λ d. begins;
    next = follows;
    ends = λ d. last;
  }
    where
      row : (j : ℕ) (d : T) → j < length (h ∷ k ∷ []) → first_of (get_or (h ∷ k ∷ []) j d) < end_of (get_or (h ∷ k ∷ []) j d)
      row zero d within = omega (arith, begins, ends, some)
      row (suc zero) d within = omega (arith, next, last, more)
      row (suc (suc j)) d within = absurd (omega (arith, within))

      follows : (j : ℕ) (d : T) → j + 1 < length (h ∷ k ∷ []) → first_of (get_or (h ∷ k ∷ []) (j + 1) d) ≡ end_of (get_or (h ∷ k ∷ []) j d)
      follows zero d within = omega (arith, next, ends)
      follows (suc j) d within = absurd (omega (arith, within))

bands-some : (l : Layout) (share : Share) → IsShareIn l share → share.first < share.end
bands-some l share is =
    rows-some (λ (b : Band). b.upper.own) (λ (b : Band). b.lower.beside) share.first share.end share.bands.items is.stacked (some-item share.bands.items is.stacked.some)

module _ {T : Type 0} (share_of : T → Share) (l : Layout) where
  shares-one : (h : T) → IsShareIn l (share_of h) → (share_of h).first ≡ 1 → (share_of h).end ≡ l.height - 2 → AreSharesIn share_of l (h ∷ [])
  shares-one h is begins ends = record {
    each = All-one (λ t. IsShareIn l (share_of t)) h is;
    stacked =
        stacked-one (λ t. (share_of t).first) (λ t. (share_of t).end) h 1 (l.height - 2) begins ends
        (omega (arith, bands-some l (share_of h) is, begins, ends));
  }

  shares-two : (h k : T) → IsShareIn l (share_of h) → IsShareIn l (share_of k) → (share_of h).first ≡ 1 → (share_of k).first ≡ (share_of h).end
      → (share_of k).end ≡ l.height - 2 → AreSharesIn share_of l (h ∷ k ∷ [])
  shares-two h k is also begins next ends = record {
    each = All-two (λ t. IsShareIn l (share_of t)) h k is also;
    stacked =
        stacked-two (λ t. (share_of t).first) (λ t. (share_of t).end) h k 1 (share_of h).end (l.height - 2) begins refl next ends
        (omega (arith, bands-some l (share_of h) is, begins)) (omega (arith, bands-some l (share_of k) also, next, ends));
  }

-- ---- hands put into an empty list

module _ {T : Type 0} (none one : List T) (h : T) (empty : none ≡ []) (first : one ≡ none ++ h ∷ []) where
  one-is : h ∷ [] ≡ one
  one-is = sym (first ∙ ap (λ (xs : List T). xs ++ h ∷ []) empty)

  pub one-length : length one ≡ 1
  one-length = ap length (sym one-is)

  pub one-map : (f : T → ℕ) → map f one ≡ f h ∷ []
  one-map f = ap (λ (xs : List T). map f xs) (sym one-is)

  pub one-joined : {A : Type 0} (f : T → List A) → flat_map f one ≡ f h
  one-joined f = ap (λ (xs : List T). flat_map f xs) (sym one-is) ∙ append-nil (f h)

  pub one-all : (P : T → Type 0) → P h → All P one
  one-all P p = subst (λ (xs : List T). All P xs) one-is (All-one P h p)

  pub one-shares : (share_of : T → Share) (l : Layout) → IsShareIn l (share_of h) → (share_of h).first ≡ 1 → (share_of h).end ≡ l.height - 2 → AreSharesIn share_of l one
  one-shares share_of l is begins ends = subst (λ (xs : List T). AreSharesIn share_of l xs) one-is (shares-one share_of l h is begins ends)

  module _ (two : List T) (k : T) (second : two ≡ one ++ k ∷ []) where
    two-is : h ∷ k ∷ [] ≡ two
    two-is = sym (second ∙ ap (λ (xs : List T). xs ++ k ∷ []) (sym one-is))

    pub two-length : length two ≡ 2
    two-length = ap length (sym two-is)

    pub two-map : (f : T → ℕ) → map f two ≡ f h ∷ f k ∷ []
    two-map f = ap (λ (xs : List T). map f xs) (sym two-is)

    pub two-joined : {A : Type 0} (f : T → List A) → flat_map f two ≡ f h ++ f k
    two-joined {A} f = ap (λ (xs : List T). flat_map f xs) (sym two-is) ∙ ap (λ (ys : List A). f h ++ ys) (append-nil (f k))

    pub two-all : (P : T → Type 0) → P h → P k → All P two
    two-all P p q = subst (λ (xs : List T). All P xs) two-is (All-two P h k p q)

    pub two-shares : (share_of : T → Share) (l : Layout) → IsShareIn l (share_of h) → IsShareIn l (share_of k) → (share_of h).first ≡ 1
        → (share_of k).first ≡ (share_of h).end → (share_of k).end ≡ l.height - 2 → AreSharesIn share_of l two
    two-shares share_of l is also begins next ends = subst (λ (xs : List T). AreSharesIn share_of l xs) two-is (shares-two share_of l h k is also begins next ends)
