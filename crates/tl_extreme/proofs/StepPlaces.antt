-- The steps from and to a corner, as three places.
use Rattle.std.proofs.Common.{◌≡◌, ◌⊎◌, inl, inr, ℕ, zero, suc, ◌<◌, Bool, true, false, List, [], ◌∷◌, map, filter, length, get_or, Option, Some, None, refl, sym, ◌∙◌, ap, subst, arith}
use Rattle.std.specs.Prelude.{IfSome, IsTrue}
use Rattle.std.specs.List.{list_any}
use Rattle.std.proofs.lemmas.Bool.{cases_Bool}
use Rattle.tl_lists.specs.Lists.{present}
use Rattle.tl_lists.proofs.Members.{In, In-filter, In-filter_parts}
use Rattle.tl_definitions.specs.declared.Corner.{Corner}
use Rattle.tl_definitions.specs.Lattice.{corner_eq, steps_in, steps_out}
use Rattle.tl_definitions.specs.Region.{Region, is_edge, is_step, steps}
use Rattle.tl_definitions.proofs.Walks.{corner-In, In-corner}
use Rattle.tl_lattice.specs.Places.{padded}
use Rattle.tl_height.proofs.PresentLemmas.{present-padded}
use Rattle.tl_extreme.specs.CornerGraph.{place, place_if, steps_to}

pub place_if-yes : (R : Region) (test : Corner → Bool) (o : Option Corner) (v : Corner) (p : ℕ) → o ≡ Some v → test v ≡ true → p ≡ place R v → Some p ≡ place_if R test o
place_if-yes R test None v p is passes place_is = cc is
place_if-yes R test (Some w) v p is passes place_is =
    let same : w ≡ v = cc is in
    let here : test w ≡ true = ap test same ∙ passes in
    rw here (ap (λ (n : ℕ). Some n) (place_is ∙ ap (place R) (sym same)))

present-place_if : (R : Region) (test : Corner → Bool) (xs : List (Option Corner)) → present (map (place_if R test) xs) ≡ map (place R) (filter test (present xs))
present-place_if R test [] = refl
present-place_if R test (None ∷ xs) = present-place_if R test xs
present-place_if R test (Some v ∷ xs) = go (present-place_if R test xs) (cases_Bool (test v))
  where
    go : present (map (place_if R test) xs) ≡ map (place R) (filter test (present xs)) → (test v ≡ true) ⊎ (test v ≡ false) → present (map (place_if R test) (Some v ∷ xs)) ≡ map (place R) (filter test (present (Some v ∷ xs)))
    go rest (inl e) = rw e (ap (λ (ps : List ℕ). place R v ∷ ps) rest)
    go rest (inr e) = rw e rest

three : {A : Type 0} (xs : List A) (d : A) → length xs ≡ 3 → xs ≡ get_or xs 0 d ∷ get_or xs 1 d ∷ get_or xs 2 d ∷ []
three [] d e = absurd (omega (arith, e))
three (x ∷ []) d e = absurd (omega (arith, e))
three (x ∷ y ∷ []) d e = absurd (omega (arith, e))
three (x ∷ y ∷ z ∷ []) d e = refl
three (x ∷ y ∷ z ∷ w ∷ xs) d e = absurd (omega (arith, e))

filter-same : {A : Type 0} (p q : A → Bool) (xs : List A) → ((x : A) → In x xs → p x ≡ q x) → filter p xs ≡ filter q xs
filter-same p q [] f = refl
filter-same p q (x ∷ xs) f = go (filter-same p q xs (λ y i. f y (inr i))) (cases_Bool (q x))
  where
    go : filter p xs ≡ filter q xs → (q x ≡ true) ⊎ (q x ≡ false) → filter p (x ∷ xs) ≡ filter q (x ∷ xs)
    go rest (inl e) = let here : p x ≡ true = f x (inl refl) ∙ e in rw (here, e) (ap (λ ys. x ∷ ys) rest)
    go rest (inr e) = let here : p x ≡ false = f x (inl refl) ∙ e in rw (here, e) rest

module _ (R : Region) where
  -- a step from the table is one of the region exactly where it goes along an edge
  pub edge-step : (u w : Corner) → In w (present (steps_out R.kind u)) → is_step R u w ≡ is_edge R u w
  edge-step u w i = go (cases_Bool (is_edge R u w)) (cases_Bool (is_step R u w))
    where
      go : (is_edge R u w ≡ true) ⊎ (is_edge R u w ≡ false) → (is_step R u w ≡ true) ⊎ (is_step R u w ≡ false) → is_step R u w ≡ is_edge R u w
      go (inl e) s = In-corner w (steps R u) (In-filter (is_edge R u) w (present (steps_out R.kind u)) e i) ∙ sym e
      go (inr e) (inr s) = s ∙ sym e
      go (inr e) (inl s) = let yes = (In-filter_parts (is_edge R u) w (present (steps_out R.kind u)) (corner-In w (steps R u) s)).1 in cc (e, yes)

  pub out-places : (u : Corner) (table : List (Option Corner)) → length table ≡ 3 → table ≡ padded 3 (steps_out R.kind u)
      → present (place_if R (is_step R u) (get_or table 0 None) ∷ place_if R (is_step R u) (get_or table 1 None) ∷ place_if R (is_step R u) (get_or table 2 None) ∷ [])
      ≡ map (place R) (steps R u)
  out-places u table long is =
      ap (λ (os : List (Option Corner)). present (map (place_if R (is_step R u)) os)) (sym (three table None long))
      ∙ present-place_if R (is_step R u) table
      ∙ ap (λ (ws : List Corner). map (place R) (filter (is_step R u) ws)) (ap present is ∙ present-padded 3 (steps_out R.kind u))
      ∙ ap (map (place R)) (filter-same (is_step R u) (is_edge R u) (present (steps_out R.kind u)) (λ w i. edge-step u w i))

  pub in-places : (w : Corner) (table : List (Option Corner)) → length table ≡ 3 → table ≡ padded 3 (steps_in R.kind w)
      → present (place_if R (λ u. is_step R u w) (get_or table 0 None) ∷ place_if R (λ u. is_step R u w) (get_or table 1 None) ∷ place_if R (λ u. is_step R u w) (get_or table 2 None) ∷ [])
      ≡ map (place R) (steps_to R w)
  in-places w table long is =
      ap (λ (os : List (Option Corner)). present (map (place_if R (λ u. is_step R u w)) os)) (sym (three table None long))
      ∙ present-place_if R (λ u. is_step R u w) table
      ∙ ap (λ (ws : List Corner). map (place R) (filter (λ u. is_step R u w) ws)) (ap present is ∙ present-padded 3 (steps_in R.kind w))
