-- Walks along the boundary: when one closes, and when it is the circuit.
use Rattle.std.proofs.Common.{◌≡◌, ◌⊎◌, inl, inr, Bool, true, false, ◌&&◌, not, List, [], ◌∷◌, ◌++◌, map, Some, refl, sym, ◌∙◌, ap, subst}
use Rattle.std.specs.Prelude.{slice_get}
use Rattle.std.specs.List.{list_any}
use Rattle.std.proofs.lemmas.Bool.{and_parts, and_from}
use Rattle.tl_definitions.specs.declared.Corner.{Corner}
use Rattle.tl_definitions.specs.Lattice.{cell_eq, corner_eq, Side}
use Rattle.tl_definitions.specs.Region.{Region, boundary, side_eq}
use Rattle.tl_definitions.specs.Accepted.{is_pinch, circuit_corners}
use Rattle.tl_lists.specs.Lists.{turned, distinct}
use Rattle.tl_definitions.specs.Boundary.{IsClosedWalk}
use Rattle.tl_definitions.proofs.Cells.{cell_eq-same, cell_eq-refl}
use Rattle.tl_lists.proofs.Members.{In, In-map, any-In, In-any_of, In-map_parts, list_all-In, In-list_all}
use Rattle.tl_definitions.proofs.NextCorner.{side_after, one_side_to}
use Rattle.tl_definitions.proofs.Corners.{corner_eq-same, corner_eq-refl}

-- ---- sides and corners as members

pub side_eq-same : (s t : Side) → side_eq s t ≡ true → s ≡ t
side_eq-same s t e =
    let p = and_parts (cell_eq s.cell t.cell && corner_eq s.from t.from) (corner_eq s.to t.to) e in
    let q = and_parts (cell_eq s.cell t.cell) (corner_eq s.from t.from) p.0 in
    let a = cell_eq-same s.cell t.cell q.0 in
    let b = corner_eq-same s.from t.from q.1 in
    let c = corner_eq-same s.to t.to p.1 in
    λ i. record { cell = a i; from = b i; to = c i }

pub side_eq-refl : (s : Side) → side_eq s s ≡ true
side_eq-refl s = and_from _ _ (and_from _ _ (cell_eq-refl s.cell) (corner_eq-refl s.from)) (corner_eq-refl s.to)

pub side-In : (s : Side) (ss : List Side) → list_any (side_eq s) ss ≡ true → In s ss
side-In s ss e = let (t, i, q) = any-In (side_eq s) ss e in subst (λ z. In z ss) (sym (side_eq-same s t q)) i

pub In-side : (s : Side) (ss : List Side) → In s ss → list_any (side_eq s) ss ≡ true
In-side s ss i = In-any_of (side_eq s) s ss i (side_eq-refl s)

pub corner-In : (v : Corner) (vs : List Corner) → list_any (corner_eq v) vs ≡ true → In v vs
corner-In v vs e = let (u, i, q) = any-In (corner_eq v) vs e in subst (λ z. In z vs) (sym (corner_eq-same v u q)) i

pub In-corner : (v : Corner) (vs : List Corner) → In v vs → list_any (corner_eq v) vs ≡ true
In-corner v vs i = In-any_of (corner_eq v) v vs i (corner_eq-refl v)

-- ---- distinct corners

not_any : (b : Bool) → not b ≡ true → b ≡ true → ⊥
not_any b e f = cc (e, f)

any_not : (b : Bool) → (b ≡ true → ⊥) → not b ≡ true
any_not true h = absurd (h refl)
any_not false h = refl

pub distinct-tail : (v : Corner) (vs : List Corner) → distinct corner_eq (v ∷ vs) ≡ true → (In v vs → ⊥) × (distinct corner_eq vs ≡ true)
distinct-tail v vs d =
    let p = and_parts (not (list_any (corner_eq v) vs)) (distinct corner_eq vs) d in
    (λ i. not_any (list_any (corner_eq v) vs) p.0 (In-corner v vs i), p.1)

pub distinct-cons : (v : Corner) (vs : List Corner) → (In v vs → ⊥) → distinct corner_eq vs ≡ true → distinct corner_eq (v ∷ vs) ≡ true
distinct-cons v vs h d = and_from _ _ (any_not (list_any (corner_eq v) vs) (λ e. h (corner-In v vs e))) d

pub In-last_cases : (u v : Corner) (vs : List Corner) → In u (vs ++ v ∷ []) → In u vs ⊎ (u ≡ v)
In-last_cases u v [] (inl e) = inr e
In-last_cases u v [] (inr i) = absurd i
In-last_cases u v (w ∷ vs) (inl e) = inl (inl e)
In-last_cases u v (w ∷ vs) (inr i) = elim (In-last_cases u v vs i) [ inl j ↦ inl (inr j) | inr e ↦ inr e ]

In-before_last : (u v : Corner) (vs : List Corner) → In u vs → In u (vs ++ v ∷ [])
In-before_last u v [] i = absurd i
In-before_last u v (w ∷ vs) (inl e) = inl e
In-before_last u v (w ∷ vs) (inr i) = inr (In-before_last u v vs i)

In-last : (v : Corner) (vs : List Corner) → In v (vs ++ v ∷ [])
In-last v [] = inl refl
In-last v (w ∷ vs) = inr (In-last v vs)

pub distinct-push : (vs : List Corner) (v : Corner) → distinct corner_eq vs ≡ true → (In v vs → ⊥) → distinct corner_eq (vs ++ v ∷ []) ≡ true
distinct-push [] v d h = refl
distinct-push (w ∷ vs) v d h =
    let p = distinct-tail w vs d in
    distinct-cons w (vs ++ v ∷ [])
    (λ i. elim (In-last_cases w v vs i) [ inl j ↦ p.0 j | inr e ↦ h (inl (sym e)) ])
    (distinct-push vs v p.1 (λ i. h (inr i)))

distinct-before : (vs : List Corner) (v : Corner) → distinct corner_eq (vs ++ v ∷ []) ≡ true → In v vs → ⊥
distinct-before [] v d i = i
distinct-before (w ∷ vs) v d (inl e) = (distinct-tail w (vs ++ v ∷ []) d).0 (subst (λ z. In z (vs ++ v ∷ [])) e (In-last v vs))
distinct-before (w ∷ vs) v d (inr i) = distinct-before vs v (distinct-tail w (vs ++ v ∷ []) d).1 i

-- ---- a walk

abbrev pub IsFreeOfPinches : Region → Type 0
IsFreeOfPinches R = (s : Side) → In s (boundary R) → (is_pinch R s.from ≡ false) × (is_pinch R s.to ≡ false)

-- Boundary sides, each beginning where the one before ends, from a corner to another one; they leave different
-- corners, and a boundary side leaves the last one.
pub record IsWalk (R : Region) (start here : Corner) (walk : List Side) : Type 0 where
  pub on_boundary : (s : Side) → In s walk → In s (boundary R)
  pub linked : circuit_corners walk ++ here ∷ [] ≡ start ∷ map (λ s. s.to) walk
  pub once : distinct corner_eq (circuit_corners walk) ≡ true
  pub goes_on : (s : Side) × In s (boundary R) × (s.from ≡ here)

pub walk-start : (R : Region) (s : Side) → In s (boundary R) → IsWalk R s.from s.from []
walk-start R s i = record { on_boundary = λ t j. absurd j; linked = refl; once = refl; goes_on = (s, i, refl) }

pub map-push : {A B : Type 0} (f : A → B) (xs : List A) (x : A) → map f (xs ++ x ∷ []) ≡ map f xs ++ f x ∷ []
map-push f [] x = refl
map-push f (y ∷ xs) x = ap (λ l. f y ∷ l) (map-push f xs x)

In-push_cases : (s t : Side) (ss : List Side) → In s (ss ++ t ∷ []) → In s ss ⊎ (s ≡ t)
In-push_cases s t [] (inl e) = inr e
In-push_cases s t [] (inr i) = absurd i
In-push_cases s t (u ∷ ss) (inl e) = inl (inl e)
In-push_cases s t (u ∷ ss) (inr i) = elim (In-push_cases s t ss i) [ inl j ↦ inl (inr j) | inr e ↦ inr e ]

-- one side more
pub walk-more : (R : Region) (start : Corner) (s : Side) (walk : List Side) → In s (boundary R) → IsWalk R start s.from walk → (In s.from (circuit_corners walk) → ⊥)
    → IsWalk R start s.to (walk ++ s ∷ [])
walk-more R start s walk i w new = record {
  on_boundary = λ t j. elim (In-push_cases t s walk j) [ inl k ↦ w.on_boundary t k | inr e ↦ subst (λ z. In z (boundary R)) (sym e) i ];
  linked =
      ap (λ (l : List Corner). l ++ s.to ∷ []) (map-push (λ (t : Side). t.from) walk s ∙ w.linked)
      ∙ ap (λ (l : List Corner). start ∷ l) (sym (map-push (λ (t : Side). t.to) walk s));
  once = subst (λ l. distinct corner_eq l ≡ true) (sym (map-push (λ (t : Side). t.from) walk s)) (distinct-push (circuit_corners walk) s.from w.once new);
  goes_on = side_after R s i;
}

-- what a closed walk's tests tell
pub closed-sides : (R : Region) (start : Corner) (walk : List Side) → IsClosedWalk R start walk → (s : Side) → In s walk → In s (boundary R)
closed-sides R start walk w s i = side-In s (boundary R) (In-list_all (λ t. list_any (side_eq t) (boundary R)) walk s w.on_boundary i)

pub closed-begins : (R : Region) (start : Corner) (walk : List Side) → IsClosedWalk R start walk → (rest : List Corner) × (circuit_corners walk ≡ start ∷ rest)
closed-begins R start walk w = go (circuit_corners walk) w.begins
  where
    go : (corners : List Corner) → slice_get corners 0 ≡ Some start → (rest : List Corner) × (corners ≡ start ∷ rest)
    go [] e = cc e
    go (v ∷ vs) e = let same : v ≡ start = cc e in (vs, ap (λ (u : Corner). u ∷ vs) same)

-- the sides of a walk come to different corners
ends-distinct : (R : Region) (walk : List Side) → IsFreeOfPinches R → ((s : Side) → In s walk → In s (boundary R)) → distinct corner_eq (circuit_corners walk) ≡ true
    → distinct corner_eq (map (λ s. s.to) walk) ≡ true
ends-distinct R [] free on d = refl
ends-distinct R (s ∷ walk) free on d =
    let p = distinct-tail s.from (circuit_corners walk) d in
    distinct-cons s.to (map (λ t. t.to) walk)
    (λ i.
    let (t, j, e) = In-map_parts (λ (t : Side). t.to) s.to walk i in
    let same : s ≡ t = one_side_to R s t (free s (on s (inl refl))).1 (on s (inl refl)) (on t (inr j)) (sym e) in
    p.0 (subst (λ z. In z.from (circuit_corners walk)) (sym same) (In-map (λ (u : Side). u.from) t walk j)))
    (ends-distinct R walk free (λ t j. on t (inr j)) p.1)

-- A walk that comes back to one of its corners has come back to its first.
pub walk-closes : (R : Region) (start here : Corner) (walk : List Side) → IsFreeOfPinches R → IsWalk R start here walk → In here (circuit_corners walk)
    → IsClosedWalk R start walk
walk-closes R start here walk free w i =
    go (circuit_corners walk) refl w.linked i
  where
    ends : distinct corner_eq (map (λ s. s.to) walk) ≡ true
    ends = ends-distinct R walk free w.on_boundary w.once

    head_of : (u v : Corner) (us vs : List Corner) → u ∷ us ≡ v ∷ vs → (u ≡ v) × (us ≡ vs)
    head_of u v us vs e = (cc e, cc e)

    go : (corners : List Corner) → circuit_corners walk ≡ corners → corners ++ here ∷ [] ≡ start ∷ map (λ s. s.to) walk → In here corners → IsClosedWalk R start walk
    go [] e l j = absurd j
    go (v ∷ vs) e l j =
        let p = head_of v start (vs ++ here ∷ []) (map (λ s. s.to) walk) l in
        let at_first : here ≡ v = elim j [ inl same ↦ same | inr k ↦ absurd (distinct-before vs here (subst (λ l. distinct corner_eq l ≡ true) (sym p.1) ends) k) ] in
        record {
          on_boundary = list_all-In (λ s. list_any (side_eq s) (boundary R)) walk (λ s k. In-side s (boundary R) (w.on_boundary s k));
          begins = ap (λ (l : List Corner). slice_get l 0) e ∙ ap (λ (u : Corner). Some u) p.0;
          closed = sym p.1 ∙ (ap (λ (u : Corner). vs ++ u ∷ []) at_first ∙ sym (ap turned e));
          once = w.once;
        }
