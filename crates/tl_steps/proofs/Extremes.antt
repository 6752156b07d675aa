-- The least and the greatest of some numbers.
use Rattle.std.proofs.Common.{◌≡◌, ◌⊎◌, inl, inr, List, [], ◌∷◌, map, refl, sym, subst, arith, ℤ, pos, ◌≤ℤ◌}
use Rattle.std.specs.Prelude.{fold}
use Rattle.std.proofs.lemmas.Int.{ints}
use Rattle.tl_lists.proofs.Members.{In, In-map, In-map_parts}
use Rattle.tl_lawful.specs.Order.{greater, lesser}
use Rattle.tl_lawful.proofs.Stated.{greater-one, greater-upper, lesser-lower, lesser-one}
use Rattle.tl_steps.specs.Stepping.{greatest, least}

pub same-le : (y z : ℤ) → y ≡ z → y ≤ℤ z
same-le y z e = omega (arith, ints, e)

le-trans : (x y z : ℤ) → x ≤ℤ y → y ≤ℤ z → x ≤ℤ z
le-trans x y z l m = omega (arith, ints, l, m)

pub le-both : (y z : ℤ) → y ≤ℤ z → z ≤ℤ y → y ≡ z
le-both y z l m = omega (arith, ints, l, m)

-- ---- the least

-- it is no more than each of the numbers, and it is one of them
fold-lower : (z : ℤ) (zs : List ℤ) (y : ℤ) → In y (z ∷ zs) → fold lesser z zs ≤ℤ y
fold-lower z [] y (inl e) = same-le z y (sym e)
fold-lower z [] y (inr i) = absurd i
fold-lower z (x ∷ zs) y (inl e) =
    le-trans (fold lesser (lesser z x) zs) (lesser z x) y (fold-lower (lesser z x) zs (lesser z x) (inl refl))
    (subst (λ (t : ℤ). lesser z x ≤ℤ t) (sym e) (lesser-lower z x).0)
fold-lower z (x ∷ zs) y (inr (inl e)) =
    le-trans (fold lesser (lesser z x) zs) (lesser z x) y (fold-lower (lesser z x) zs (lesser z x) (inl refl))
    (subst (λ (t : ℤ). lesser z x ≤ℤ t) (sym e) (lesser-lower z x).1)
fold-lower z (x ∷ zs) y (inr (inr i)) = fold-lower (lesser z x) zs y (inr i)

fold-lesser_one : (z : ℤ) (zs : List ℤ) → In (fold lesser z zs) (z ∷ zs)
fold-lesser_one z [] = inl refl
fold-lesser_one z (x ∷ zs) = go (fold-lesser_one (lesser z x) zs) (lesser-one z x)
  where
    go : In (fold lesser (lesser z x) zs) (lesser z x ∷ zs) → (lesser z x ≡ z) ⊎ (lesser z x ≡ x) → In (fold lesser (lesser z x) zs) (z ∷ x ∷ zs)
    go (inl e) (inl f) = inl (cc (e, f))
    go (inl e) (inr f) = inr (inl (cc (e, f)))
    go (inr i) one = inr (inr i)

pub least-one : (zs : List ℤ) (y : ℤ) → In y zs → In (least zs) zs
least-one [] y i = absurd i
least-one (z ∷ zs) y i = fold-lesser_one z zs

pub least-lower : (zs : List ℤ) (y : ℤ) → In y zs → least zs ≤ℤ y
least-lower [] y i = absurd i
least-lower (z ∷ zs) y i = fold-lower z zs y i

-- a number among them that is no more than each is the least
pub least-is : (zs : List ℤ) (y : ℤ) → In y zs → ((z : ℤ) → In z zs → y ≤ℤ z) → least zs ≡ y
least-is [] y i below = absurd i
least-is (z ∷ zs) y i below = le-both (fold lesser z zs) y (fold-lower z zs y i) (below (fold lesser z zs) (fold-lesser_one z zs))

-- where each of some numbers is no more than another, so is the least of them
pub least-below : {A : Type 0} (f g : A → ℤ) (xs : List A) → ((x : A) → In x xs → f x ≤ℤ g x) → least (map f xs) ≤ℤ least (map g xs)
least-below f g [] below = same-le (pos 0) (pos 0) refl
least-below {A} f g (x ∷ xs) below = go (In-map_parts g (least (map g (x ∷ xs))) (x ∷ xs) (fold-lesser_one (g x) (map g xs)))
  where
    go : (y : A) × In y (x ∷ xs) × (least (map g (x ∷ xs)) ≡ g y) → least (map f (x ∷ xs)) ≤ℤ least (map g (x ∷ xs))
    go (y, i, e) =
        le-trans (least (map f (x ∷ xs))) (f y) (least (map g (x ∷ xs))) (least-lower (map f (x ∷ xs)) (f y) (In-map f y (x ∷ xs) i))
        (subst (λ (t : ℤ). f y ≤ℤ t) (sym e) (below y i))

-- ---- the greatest

fold-upper : (z : ℤ) (zs : List ℤ) (y : ℤ) → In y (z ∷ zs) → y ≤ℤ fold greater z zs
fold-upper z [] y (inl e) = same-le y z e
fold-upper z [] y (inr i) = absurd i
fold-upper z (x ∷ zs) y (inl e) =
    le-trans y (greater z x) (fold greater (greater z x) zs) (subst (λ (t : ℤ). t ≤ℤ greater z x) (sym e) (greater-upper z x).0)
    (fold-upper (greater z x) zs (greater z x) (inl refl))
fold-upper z (x ∷ zs) y (inr (inl e)) =
    le-trans y (greater z x) (fold greater (greater z x) zs) (subst (λ (t : ℤ). t ≤ℤ greater z x) (sym e) (greater-upper z x).1)
    (fold-upper (greater z x) zs (greater z x) (inl refl))
fold-upper z (x ∷ zs) y (inr (inr i)) = fold-upper (greater z x) zs y (inr i)

fold-greater_one : (z : ℤ) (zs : List ℤ) → In (fold greater z zs) (z ∷ zs)
fold-greater_one z [] = inl refl
fold-greater_one z (x ∷ zs) = go (fold-greater_one (greater z x) zs) (greater-one z x)
  where
    go : In (fold greater (greater z x) zs) (greater z x ∷ zs) → (greater z x ≡ z) ⊎ (greater z x ≡ x) → In (fold greater (greater z x) zs) (z ∷ x ∷ zs)
    go (inl e) (inl f) = inl (cc (e, f))
    go (inl e) (inr f) = inr (inl (cc (e, f)))
    go (inr i) one = inr (inr i)

pub greatest-one : (zs : List ℤ) (y : ℤ) → In y zs → In (greatest zs) zs
greatest-one [] y i = absurd i
greatest-one (z ∷ zs) y i = fold-greater_one z zs

pub greatest-upper : (zs : List ℤ) (y : ℤ) → In y zs → y ≤ℤ greatest zs
greatest-upper [] y i = absurd i
greatest-upper (z ∷ zs) y i = fold-upper z zs y i

pub greatest-is : (zs : List ℤ) (y : ℤ) → In y zs → ((z : ℤ) → In z zs → z ≤ℤ y) → greatest zs ≡ y
greatest-is [] y i above = absurd i
greatest-is (z ∷ zs) y i above = le-both (fold greater z zs) y (above (fold greater z zs) (fold-greater_one z zs)) (fold-upper z zs y i)

pub greatest-below : {A : Type 0} (f g : A → ℤ) (xs : List A) → ((x : A) → In x xs → f x ≤ℤ g x) → greatest (map f xs) ≤ℤ greatest (map g xs)
greatest-below f g [] below = same-le (pos 0) (pos 0) refl
greatest-below {A} f g (x ∷ xs) below = go (In-map_parts f (greatest (map f (x ∷ xs))) (x ∷ xs) (fold-greater_one (f x) (map f xs)))
  where
    go : (y : A) × In y (x ∷ xs) × (greatest (map f (x ∷ xs)) ≡ f y) → greatest (map f (x ∷ xs)) ≤ℤ greatest (map g (x ∷ xs))
    go (y, i, e) =
        le-trans (greatest (map f (x ∷ xs))) (g y) (greatest (map g (x ∷ xs))) (subst (λ (t : ℤ). t ≤ℤ g y) (sym e) (below y i))
        (greatest-upper (map g (x ∷ xs)) (g y) (In-map g y (x ∷ xs) i))
