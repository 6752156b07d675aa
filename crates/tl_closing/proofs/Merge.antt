-- Merging along edges: a connected list of edges, one fewer than there are vertices, has a potential for any differences.
use Rattle.std.proofs.Common.{◌≡◌, ◌+◌, ◌≤◌, ◌⊎◌, inl, inr, Bool, true, false, List, [], ◌∷◌, length, cond, refl, sym, ◌∙◌, ap, subst, arith, ℤ, pos, ◌+ℤ◌, ◌-ℤ◌}
use Rattle.std.proofs.lemmas.Int.{ints}
use Rattle.std.proofs.lemmas.Bool.{cond-true, cond-false}
use Rattle.tl_lists.proofs.Members.{In}
use Rattle.tl_lists.proofs.Distinct.{Distinct}
use Rattle.tl_lists.proofs.Counts.{count, count_le, count_but_one, count_all, count_one}

module _ {A : Type 0} (eq : A → A → Bool) (eq-same : (x y : A) → eq x y ≡ true → x ≡ y) (eq-refl : (x : A) → eq x x ≡ true) (difference : A → A → ℤ) where
  -- Each vertex is in a class, named by one of its vertices, and has a number. An edge merges the classes of its
  -- two ends, and the numbers in the class of the second are shifted so that the edge fits.
  abbrev class : List (A × A) → A → A
  class [] w = w
  class (e ∷ es) w = cond (eq (class es w) (class es e.1)) (class es e.0) (class es w)

  abbrev number : List (A × A) → A → ℤ
  number [] w = pos 0
  number (e ∷ es) w =
      cond (eq (class es w) (class es e.1)) (number es w +ℤ ((number es e.0 +ℤ difference e.0 e.1) -ℤ number es e.1)) (number es w)

  -- the vertices that name their class
  abbrev is_root : List (A × A) → A → Bool
  is_root es w = eq (class es w) w

  -- the ends of each edge are in one class
  class-same : (es : List (A × A)) (u v : A) → In (u, v) es → class es u ≡ class es v
  class-same [] u v i = absurd i
  class-same (e ∷ es) u v (inl same) =
      let first : class (e ∷ es) e.0 ≡ class es e.0 = both (eq (class es e.0) (class es e.1)) (class es e.0) in
      let second : class (e ∷ es) e.1 ≡ class es e.0 = cond-true _ _ _ (eq-refl (class es e.1)) in
      subst (λ (p : A × A). class (e ∷ es) p.0 ≡ class (e ∷ es) p.1) (sym same) (first ∙ sym second)
    where
      both : (t : Bool) (x : A) → cond t x x ≡ x
      both true x = refl
      both false x = refl
  class-same (e ∷ es) u v (inr i) = ap (λ (c : A). cond (eq c (class es e.1)) (class es e.0) c) (class-same es u v i)

  -- an edge costs no more than one root
  roots-step : (e : A × A) (es : List (A × A)) (vs : List A) → Distinct vs → count (is_root es) vs ≤ count (is_root (e ∷ es)) vs + 1
  roots-step e es vs d = count_but_one (is_root es) (is_root (e ∷ es)) (class es e.1) vs d (λ w i p q. lost w (eq (class es w) (class es e.1)) refl p q)
    where
      lost : (w : A) (t : Bool) → eq (class es w) (class es e.1) ≡ t → is_root es w ≡ true → is_root (e ∷ es) w ≡ false → w ≡ class es e.1
      lost w true h p q = sym (eq-same _ _ p) ∙ eq-same _ _ h
      lost w false h p q =
          let stays : is_root (e ∷ es) w ≡ true = ap (λ (c : A). eq c w) (cond-false _ (class es e.0) (class es w) h) ∙ p in
          cc (stays, q)

  roots : (es : List (A × A)) (vs : List A) → Distinct vs → length vs ≤ count (is_root es) vs + length es
  roots [] vs d = let n : count (is_root []) vs ≡ length vs = count_all (is_root []) vs eq-refl in omega (arith, n)
  roots (e ∷ es) vs d = omega (arith, roots es vs d, roots-step e es vs d)

  -- where each edge has cost one root, each edge fits
  fits : (es : List (A × A)) (vs : List A) → Distinct vs → count (is_root es) vs + length es ≤ length vs
      → (u v : A) → In (u, v) es → number es v ≡ number es u +ℤ difference u v
  fits [] vs d tight u v i = absurd i
  fits (e ∷ es) vs d tight u v i =
      go (eq (class es e.0) (class es e.1)) refl i (fits es vs d (omega (arith, tight, roots-step e es vs d)) u v)
    where
      stays : eq (class es e.0) (class es e.1) ≡ true → (w : A) (t : Bool) → eq (class es w) (class es e.1) ≡ t → cond t (class es e.0) (class es w) ≡ class es w
      stays h w true k = eq-same _ _ h ∙ sym (eq-same _ _ k)
      stays h w false k = refl

      is_grid : eq (class es e.0) (class es e.1) ≡ true → count (is_root es) vs ≤ count (is_root (e ∷ es)) vs
      is_grid h = count_le (is_root es) (is_root (e ∷ es)) vs (λ w j p. ap (λ (c : A). eq c w) (stays h w (eq (class es w) (class es e.1)) refl) ∙ p)

      shifted : (a b c : ℤ) (t : Bool) → b ≡ a +ℤ difference u v → cond t (b +ℤ c) b ≡ cond t (a +ℤ c) a +ℤ difference u v
      shifted a b c true h = omega (arith, ints, h)
      shifted a b c false h = h

      new : eq (class es e.0) (class es e.1) ≡ false → number (e ∷ es) e.1 ≡ number (e ∷ es) e.0 +ℤ difference e.0 e.1
      new h =
          let first : number (e ∷ es) e.0 ≡ number es e.0 = cond-false _ _ _ h in
          let second : number (e ∷ es) e.1 ≡ number es e.1 +ℤ ((number es e.0 +ℤ difference e.0 e.1) -ℤ number es e.1) = cond-true _ _ _ (eq-refl (class es e.1)) in
          second ∙ (sum (number es e.1) (number es e.0) (difference e.0 e.1) ∙ ap (λ (n : ℤ). n +ℤ difference e.0 e.1) (sym first))
        where
          sum : (a b c : ℤ) → a +ℤ ((b +ℤ c) -ℤ a) ≡ b +ℤ c
          sum a b c = omega (arith, ints)

      go : (t : Bool) → eq (class es e.0) (class es e.1) ≡ t → ((u, v) ≡ e) ⊎ In (u, v) es
          → (In (u, v) es → number es v ≡ number es u +ℤ difference u v) → number (e ∷ es) v ≡ number (e ∷ es) u +ℤ difference u v
      go true h j ih = absurd (omega (arith, tight, is_grid h, roots es vs d))
      go false h (inl same) ih = subst (λ (p : A × A). number (e ∷ es) p.1 ≡ number (e ∷ es) p.0 +ℤ difference p.0 p.1) (sym same) (new h)
      go false h (inr j) ih =
          let one : eq (class es v) (class es e.1) ≡ eq (class es u) (class es e.1) = ap (λ (c : A). eq c (class es e.1)) (sym (class-same es u v j)) in
          ap (λ (t : Bool). cond t (number es v +ℤ ((number es e.0 +ℤ difference e.0 e.1) -ℤ number es e.1)) (number es v)) one
          ∙ shifted (number es u) (number es v) _ (eq (class es u) (class es e.1)) (ih j)

  -- The edges connect the vertices where each labelling of the vertices by vertices that is the same at both ends
  -- of each edge is the same at all.
  pub merged : (es : List (A × A)) (vs : List A) → Distinct vs
      → ((f : A → A) → ((u v : A) → In (u, v) es → f u ≡ f v) → (x y : A) → In x vs → In y vs → f x ≡ f y)
      → length es + 1 ≤ length vs → (h : A → ℤ) × ((u v : A) → In (u, v) es → h v ≡ h u +ℤ difference u v)
  merged es vs d connect few =
      let one : count (is_root es) vs ≤ 1 = count_one (is_root es) vs d (λ x y i j p q. sym (eq-same _ _ p) ∙ (connect (class es) (class-same es) x y i j ∙ eq-same _ _ q)) in
      (number es, fits es vs d (omega (arith, one, few)))
