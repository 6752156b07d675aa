-- Items that are alike in what this tells of them.
use Rattle.std.proofs.Common.{◌≡◌, ℕ, ◌<◌, ◌⊎◌, inl, inr, List, length, get_or, set, refl, sym, ◌∙◌, ap, subst, arith}
use Rattle.std.proofs.lemmas.Bool.{cases_eq}
use Rattle.std.proofs.lemmas.List.{get_or-set_other, get_or-set_same}
use Rattle.tl_layout.specs.declared.layout.Layout.{Layout}
use Rattle.tl_crew.specs.Bands.{AreSharesIn, IsShareIn}
use Rattle.tl_crew.specs.declared.share.Share.{Share}
use Rattle.tl_crew.proofs.Stacked.{shares-same}

abbrev pub AreAlike : {T U : Type 0} → (T → U) → List T → List T → Type 0
AreAlike {T} f old new = (k : ℕ) (d : T) → k < length old → f (get_or new k d) ≡ f (get_or old k d)

pub alike-itself : {T U : Type 0} (f : T → U) (items : List T) → AreAlike f items items
alike-itself f items k d within = refl

-- another item that is like the one in whose place it comes
pub alike-put : {T U : Type 0} (f : T → U) (old items : List T) (j : ℕ) (t : T) → length items ≡ length old → j < length items
    → ((d : T) → f t ≡ f (get_or items j d)) → AreAlike f old items → AreAlike f old (set items j t)
alike-put {T} {U} f old items j t count within like before k d inside = go (cases_eq k j)
  where
    go : (k ≡ j) ⊎ ((k ≡ j) → ⊥) → f (get_or (set items j t) k d) ≡ f (get_or old k d)
    go (inl e) =
        subst (λ (n : ℕ). f (get_or (set items j t) n d) ≡ f (get_or items n d)) (sym e) (ap f (get_or-set_same items j t d within) ∙ like d) ∙ before k d inside
    go (inr n) = ap f (get_or-set_other items j k t d n) ∙ before k d inside

-- hands with the same bands
pub shares-alike : {T : Type 0} (share_of : T → Share) (l : Layout) (old new : List T) → length new ≡ length old → AreAlike share_of old new → AreSharesIn share_of l old
    → AreSharesIn share_of l new
shares-alike share_of l old new count alike are =
    shares-same share_of l old new are count (λ j d within. ap (λ (s : Share). s.first) (alike j d within)) (λ j d within. ap (λ (s : Share). s.end) (alike j d within))
    (λ j d within. let inside : j < length old = omega (arith, within, count) in subst (IsShareIn l) (sym (alike j d inside)) (are.each j d inside))
