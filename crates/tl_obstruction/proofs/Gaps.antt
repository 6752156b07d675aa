-- A gap on the circuit that is given.
use Rattle.std.proofs.Common.{◌≡◌, ◌⊎◌, inl, inr, ℕ, zero, suc, ◌-◌, ◌<◌, ◌≤◌, Bool, true, false, ◌&&◌, List, [], ◌∷◌, length, drop, get_or, Some, None, refl, sym, ◌∙◌, ap, subst, arith, ℤ, pos, ◌-ℤ◌, ◌<ℤ◌}
use Rattle.std.specs.Prelude.{slice_get, position}
use Rattle.std.specs.List.{last_or, list_any, position_or_len}
use native.Mathlib.Numerals.{unary_clauses}
use Rattle.std.proofs.lemmas.Bool.{or_left, or_right, cases_Bool, false_from_ne_true}
use Rattle.std.proofs.lemmas.List.{length-map}
use Rattle.std.proofs.lemmas.Option.{slice_get-get_or, slice_get_within}
use Rattle.tl_lists.specs.Lists.{linked}
use Rattle.tl_lists.proofs.Members.{In, slice_get-In}
use Rattle.tl_lists.proofs.Distinct.{Distinct, Distinct-from}
use Rattle.tl_lists.proofs.Positions.{position-some, position-missing, position-at}
use Rattle.tl_definitions.specs.declared.Corner.{Corner}
use Rattle.tl_definitions.specs.Lattice.{corner, corner_eq, Side}
use Rattle.tl_definitions.specs.Region.{Region, is_step}
use Rattle.tl_definitions.specs.Accepted.{Accepted, IsCircuit, circuit_corners}
use Rattle.tl_definitions.specs.Obstruction.{IsGap, prefix}
use Rattle.tl_definitions.proofs.Corners.{corner_eq-refl, corner_eq-same}
use Rattle.tl_boundary.proofs.OneCircuit.{one_circuit}

-- ---- paths

pub linked-short : {A : Type 0} (t : A → A → Bool) (xs : List A) → length xs ≤ 1 → linked t xs ≡ true
linked-short t [] h = refl
linked-short t (x ∷ []) h = refl
linked-short t (x ∷ y ∷ xs) h = absurd (omega (arith, h))

-- the step from a place
pub linked-drop : {A : Type 0} (t : A → A → Bool) (xs : List A) (n : ℕ) (x y : A) → slice_get xs n ≡ Some x → slice_get xs (suc n) ≡ Some y
    → linked t (drop n xs) ≡ (t x y && linked t (drop (suc n) xs))
linked-drop t [] n x y e f = cc e
linked-drop t (a ∷ []) zero x y e f = cc f
linked-drop t (a ∷ b ∷ xs) zero x y e f = let p : a ≡ x = cc e in let q : b ≡ y = cc f in λ i. t (p i) (q i) && linked t (b ∷ xs)
linked-drop t (a ∷ xs) (suc n) x y e f = linked-drop t xs n x y e f

last_or-at : {A : Type 0} (x : A) (xs : List A) → last_or (Some x) xs ≡ slice_get (x ∷ xs) (length xs)
last_or-at x [] = refl
last_or-at x (y ∷ xs) = last_or-at y xs

pub last-at : {A : Type 0} (xs : List A) (v : A) → slice_get xs (length xs - 1) ≡ Some v → last_or None xs ≡ Some v
last-at [] v e = cc e
last-at (x ∷ xs) v e =
    let here : slice_get (x ∷ xs) (length xs) ≡ Some v = simp unary_clauses at e in last_or-at x xs ∙ here

-- ---- places of corners

pub place-corner : (vs : List Corner) (v : Corner) (n : ℕ) → Some n ≡ position (corner_eq v) vs → slice_get vs n ≡ Some v
place-corner vs v n e = go (cases_Bool (list_any (corner_eq v) vs))
  where
    go : (list_any (corner_eq v) vs ≡ true) ⊎ (list_any (corner_eq v) vs ≡ false) → slice_get vs n ≡ Some v
    go (inr h) = cc (position-missing (corner_eq v) vs h, e)
    go (inl h) =
        let (u, at, same) = position-at (corner_eq v) vs h in
        let number : position_or_len (corner_eq v) vs ≡ n = cc (position-some (corner_eq v) vs h, e) in
        subst (λ (i : ℕ). slice_get vs i ≡ Some v) number (at ∙ ap (λ (w : Corner). Some w) (sym (corner_eq-same v u same)))

corner-place_or_len : (vs : List Corner) (n : ℕ) (v : Corner) → Distinct vs → slice_get vs n ≡ Some v
    → (list_any (corner_eq v) vs ≡ true) × (position_or_len (corner_eq v) vs ≡ n)
corner-place_or_len [] n v once e = cc e
corner-place_or_len (u ∷ us) zero v once e =
    let u_is : u ≡ v = cc e in
    let same : corner_eq v u ≡ true = ap (corner_eq v) u_is ∙ corner_eq-refl v in
    (or_left (corner_eq v u) _ same, rw same refl)
corner-place_or_len (u ∷ us) (suc n) v once e =
    let rest = corner-place_or_len us n v once.1 e in
    let differ : corner_eq v u ≡ false =
    false_from_ne_true _ (λ t. once.0 (subst (λ (w : Corner). In w us) (corner_eq-same v u t) (slice_get-In us n v e))) in
    (or_right (corner_eq v u) _ rest.0, rw differ (omega (arith, rest.1)))

pub corner-place : (vs : List Corner) (n : ℕ) (v : Corner) → Distinct vs → slice_get vs n ≡ Some v → position (corner_eq v) vs ≡ Some n
corner-place vs n v once e = let p = corner-place_or_len vs n v once e in position-some (corner_eq v) vs p.0 ∙ ap (λ (i : ℕ). Some i) p.1

-- ---- gaps on the circuit

module _ (R : Region) (walk : List Side) (rise : ℤ) (path : List Corner) (circuit : IsCircuit R walk) (accepted : Accepted R) (some : 0 < length path) where
  abbrev first : Corner
  first = get_or path 0 (corner 0 0)

  abbrev last : Corner
  last = get_or path (length path - 1) (corner 0 0)

  first-is : slice_get path 0 ≡ Some first
  first-is = slice_get-get_or path 0 (corner 0 0) some

  last-is : last_or None path ≡ Some last
  last-is = last-at path last (slice_get-get_or path (length path - 1) (corner 0 0) (omega (arith, some)))

  within : (n : ℕ) (v : Corner) → slice_get (circuit_corners walk) n ≡ Some v → n < length walk
  within n v e = let inside = slice_get_within (circuit_corners walk) n v e in omega (arith, inside, length-map walk (λ (s : Side). s.from))

  pub gap-from : (k l : ℕ) → Some k ≡ position (corner_eq first) (circuit_corners walk) → Some l ≡ position (corner_eq last) (circuit_corners walk)
      → rise ≡ prefix walk l -ℤ prefix walk k → pos (length path - 1) <ℤ rise → linked (is_step R) path ≡ true → IsGap R rise path
  gap-from k l e f difference steep directed =
      let at_k = place-corner (circuit_corners walk) first k e in
      let at_l = place-corner (circuit_corners walk) last l f in
      record {
        walk = walk;
        circuit = circuit;
        k = k;
        l = l;
        k_on_circuit = within k first at_k;
        l_on_circuit = within l last at_l;
        begins = first-is ∙ sym at_k;
        ends = last-is ∙ sym at_l;
        directed = directed;
        difference = difference;
        too_steep = steep;
      }

  module _ (gap : IsGap R rise path) where
    same : gap.walk ≡ walk
    same = one_circuit R walk gap.walk accepted circuit gap.circuit

    -- a corner of the circuit has one place
    place-is : (v : Corner) (n : ℕ) → Some v ≡ slice_get (circuit_corners gap.walk) n → position (corner_eq v) (circuit_corners walk) ≡ Some n
    place-is v n e =
        corner-place (circuit_corners walk) n v (Distinct-from corner_eq corner_eq-refl (circuit_corners walk) circuit.once)
        (ap (λ (w : List Side). slice_get (circuit_corners w) n) (sym same) ∙ sym e)

    pub first-place : position (corner_eq first) (circuit_corners walk) ≡ Some gap.k
    first-place = place-is first gap.k (sym first-is ∙ gap.begins)

    pub last-place : position (corner_eq last) (circuit_corners walk) ≡ Some gap.l
    last-place = place-is last gap.l (sym last-is ∙ gap.ends)

    pub gap-rise : (k l : ℕ) → Some k ≡ position (corner_eq first) (circuit_corners walk) → Some l ≡ position (corner_eq last) (circuit_corners walk)
        → rise ≡ prefix walk l -ℤ prefix walk k
    gap-rise k l e f =
        let k_is : gap.k ≡ k = cc (e, first-place) in
        let l_is : gap.l ≡ l = cc (f, last-place) in
        gap.difference ∙ (λ i. prefix (same i) (l_is i) -ℤ prefix (same i) (k_is i))
