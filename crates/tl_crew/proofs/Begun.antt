-- Bands, and hands, that are brought to the start of a stretch one after the other.
use Rattle.std.proofs.Common.{◌≡◌, ℕ, ◌+◌, ◌<◌, ◌⊎◌, inl, inr, List, length, get_or, set, sym, subst, arith, Some, Result, Ok, Err}
use Rattle.std.specs.Prelude.{OnOk}
use Rattle.std.proofs.lemmas.Bool.{cases_eq}
use Rattle.std.proofs.lemmas.List.{get_or-set_other, get_or-set_same, get_or_default}
use Rattle.tl_courses.specs.Courses.{Course}
use Rattle.tl_band.specs.declared.band.Band.{Band}
use Rattle.tl_band.specs.declared.edge.Link.{Link}
use Rattle.tl_band.specs.Bands.{IsBandAt, IsPlacedIn}
use Rattle.tl_band.specs.Edges.{IsLinkAt, IsSideAt}

-- the end of the border below a row that belongs to the band above it
pub side-above : (c : Course) (row own beside : ℕ) (k : Link) → IsLinkAt c row (row + 1) 0 k → own ≡ row → beside ≡ row + 1 → IsSideAt c own beside 0 (Some k)
side-above c row own beside k at e f = subst (λ (b : ℕ). IsLinkAt c own b 0 k) (sym f) (subst (λ (a : ℕ). IsLinkAt c a (row + 1) 0 k) (sym e) at)

-- and that of the band below
pub side-below : (c : Course) (row own beside : ℕ) (k : Link) → IsLinkAt c (row + 1) row 0 k → own ≡ row + 1 → beside ≡ row → IsSideAt c own beside 0 (Some k)
side-below c row own beside k at e f = subst (λ (b : ℕ). IsLinkAt c own b 0 k) (sym f) (subst (λ (a : ℕ). IsLinkAt c a row 0 k) (sym e) at)

pub placed-at : (c : Course) (b : Band) → IsBandAt c b → IsPlacedIn c.layout b
placed-at c b at = record { size = at.size; above_first = at.above_first; below_last = at.below_last; some = at.some; end = at.end }

-- what holds of an item put, and of those before it, holds of all up to it
pub put-at : {T : Type 0} (P : T → Type 0) (items : List T) (j : ℕ) (t : T) → j < length items → P t → ((k : ℕ) (d : T) → k < j → P (get_or items k d))
    → (k : ℕ) (d : T) → k < j + 1 → P (get_or (set items j t) k d)
put-at P items j t within new before k d up_to = go (cases_eq k j)
  where
    go : (k ≡ j) ⊎ ((k ≡ j) → ⊥) → P (get_or (set items j t) k d)
    go (inl e) = subst (λ (n : ℕ). P (get_or (set items j t) n d)) (sym e) (subst P (sym (get_or-set_same items j t d within)) new)
    go (inr n) = subst P (sym (get_or-set_other items j k t d n)) (before k d (omega (arith, n, up_to)))

-- this holds of the items before item j
abbrev pub HoldBefore : {T : Type 0} → (T → Type 0) → List T → ℕ → Type 0
HoldBefore {T} P items j = (k : ℕ) (d : T) → k < j → P (get_or items k d)

-- this holds of item j
abbrev pub HoldsOf : {T : Type 0} → (T → Type 0) → List T → ℕ → Type 0
HoldsOf {T} P items j = (d : T) → P (get_or items j d)

pub before-more : {T : Type 0} (P : T → Type 0) (items : List T) (j : ℕ) (r : T) → j < length items → P (get_or items j r) → HoldBefore P items j → HoldBefore P items (j + 1)
before-more P items j r within new before k d up_to = go (cases_eq k j)
  where
    go : (k ≡ j) ⊎ ((k ≡ j) → ⊥) → P (get_or items k d)
    go (inl e) = subst (λ (n : ℕ). P (get_or items n d)) (sym e) (subst P (get_or_default items j r d within) new)
    go (inr n) = before k d (omega (arith, n, up_to))

pub OnOk-weaker : {T E : Type 0} (r : Result T E) (P Q : Type 0) → (P → Q) → OnOk r P → OnOk r Q
OnOk-weaker (Ok t) P Q f p = f p
OnOk-weaker (Err e) P Q f p = tt
