-- The steps at all inner corners of a class at once: these are a list of chosen corners.
use Rattle.std.proofs.Common.{◌≡◌, ℕ, zero, suc, ◌+◌, Bool, true, false, ◌&&◌, List, [], ◌∷◌, Some, inl, inr, refl, sym, ◌∙◌, ap, subst, arith, map, ℤ}
use Rattle.std.specs.Prelude.{◌==◌, slice_get}
use Rattle.std.specs.List.{All, enumerate_from}
use Rattle.std.proofs.lemmas.Bool.{and_parts, and_from, false_from_ne_true}
use Rattle.std.proofs.lemmas.List.{map-id}
use Rattle.std.proofs.lemmas.List.Elements.{All-cons, All-nil}
use Rattle.tl_definitions.specs.declared.Corner.{Corner}
use Rattle.tl_definitions.specs.declared.Tile.{Tile}
use Rattle.tl_definitions.specs.Lattice.{class_of, corner_eq}
use Rattle.tl_definitions.specs.Region.{Region, inner_corners, is_corner_of, is_inner}
use Rattle.tl_definitions.specs.Accepted.{Accepted}
use Rattle.tl_definitions.specs.Heights.{height}
use Rattle.tl_definitions.specs.Sweep.{class_corners, sweep_class}
use Rattle.tl_definitions.proofs.Corners.{corner_eq-refl, corner_eq-same}
use Rattle.tl_definitions.proofs.InnerNumbers.{any-inner_corners}
use Rattle.tl_definitions.proofs.Walks.{corner-In}
use Rattle.tl_lists.proofs.Members.{In, In-any_of, In-filter, In-filter_parts, In-slice_get, any-In, list_all-In}
use Rattle.tl_steps.specs.Stepping.{AreChosenOf, AreSwept, is_among, is_of_class}
use Rattle.tl_steps.proofs.OneStep.{HasHeights}
use Rattle.tl_steps.proofs.Chosen.{chosen-heights}

All-from : {A : Type 0} (P : A → Type 0) (xs : List A) → ((x : A) → In x xs → P x) → All P xs
All-from P [] each = All-nil P
All-from P (x ∷ xs) each = All-cons P x xs (each x (inl refl)) (All-from P xs (λ y i. each y (inr i)))

-- an element with its number stands there in the list, and so does each that does
pub enumerated-at : {A : Type 0} (n : ℕ) (xs : List A) (p : ℕ × A) → In p (enumerate_from n xs) → (j : ℕ) × (p.0 ≡ n + j) × (slice_get xs j ≡ Some p.1)
enumerated-at n [] p i = absurd i
enumerated-at {A} n (x ∷ xs) p (inl e) =
    let number : p.0 ≡ n = ap (λ (q : ℕ × A). q.0) e in
    (0, omega (arith, number), ap (λ (q : ℕ × A). Some q.1) (sym e))
enumerated-at n (x ∷ xs) p (inr i) = let (j, number, e) = enumerated-at (n + 1) xs p i in (suc j, omega (arith, number), e)

pub at-enumerated : {A : Type 0} (n : ℕ) (xs : List A) (j : ℕ) (x : A) → slice_get xs j ≡ Some x → (i : ℕ) × In (i, x) (enumerate_from n xs)
at-enumerated n [] j x e = cc e
at-enumerated {A} n (y ∷ ys) zero x e = let same : x ≡ y = cc e in (n, inl (λ i. (n, same i)))
at-enumerated n (y ∷ ys) (suc j) x e = let (i, k) = at-enumerated (n + 1) ys j x e in (i, inr k)

module _ (R : Region) (k : ℕ) where
  class-numbered : (p : ℕ × Corner) → In p (class_corners R k) → (slice_get (inner_corners R) p.0 ≡ Some p.1) × (is_of_class R k p.1 ≡ true)
  class-numbered p i = go (In-filter_parts (λ p. class_of R.kind p.1 == k) p (enumerate_from 0 (inner_corners R)) i)
    where
      go : In p (enumerate_from 0 (inner_corners R)) × ((class_of R.kind p.1 == k) ≡ true) → (slice_get (inner_corners R) p.0 ≡ Some p.1) × (is_of_class R k p.1 ≡ true)
      go (j, of) =
          let (n, number, e) = enumerated-at 0 (inner_corners R) p j in
          (subst (λ (m : ℕ). slice_get (inner_corners R) m ≡ Some p.1) (sym (omega (arith, number))) e, of)

  pub class-chosen : AreChosenOf R k (class_corners R k)
  class-chosen = record {
    numbered = All-from (λ p. slice_get (inner_corners R) p.0 ≡ Some p.1) (class_corners R k) (λ p i. (class-numbered p i).0);
    of_class = list_all-In (λ p. is_of_class R k p.1) (class_corners R k) (λ p i. (class-numbered p i).1);
  }

  -- a corner among them is of the class, and each inner corner of the class is among them
  among-class : (v : Corner) → is_among (class_corners R k) v ≡ true → is_of_class R k v ≡ true
  among-class v e = go (any-In (λ p. corner_eq v p.1) (class_corners R k) e)
    where
      go : (p : ℕ × Corner) × In p (class_corners R k) × (corner_eq v p.1 ≡ true) → is_of_class R k v ≡ true
      go (p, i, h) = ap (is_of_class R k) (corner_eq-same v p.1 h) ∙ (class-numbered p i).1

  class-among : (v : Corner) → In v (inner_corners R) → is_of_class R k v ≡ true → is_among (class_corners R k) v ≡ true
  class-among v i of = go (In-slice_get (λ (u : Corner). u) v (inner_corners R) i)
    where
      with_number : (n : ℕ) × In (n, v) (enumerate_from 0 (inner_corners R)) → is_among (class_corners R k) v ≡ true
      with_number (n, j) =
          In-any_of (λ p. corner_eq v p.1) (n, v) (class_corners R k) (In-filter (λ p. class_of R.kind p.1 == k) (n, v) (enumerate_from 0 (inner_corners R)) of j) (corner_eq-refl v)

      go : (j : ℕ) × (slice_get (map (λ (u : Corner). u) (inner_corners R)) j ≡ Some v) → is_among (class_corners R k) v ≡ true
      go (j, e) = with_number (at-enumerated 0 (inner_corners R) j v (subst (λ (us : List Corner). slice_get us j ≡ Some v) (map-id (inner_corners R)) e))

pub class-heights : (R : Region) (A : List Tile) (numbers others : List ℤ) (bits : ℕ → Bool) (k : ℕ) → Accepted R → HasHeights R A numbers
    → AreSwept R numbers others bits (is_of_class R k) → HasHeights R (sweep_class R bits k A) others
class-heights R A numbers others bits k accepted has swept =
    chosen-heights R bits k accepted (class_corners R k) A numbers others has (class-chosen R k)
    (record { heights = swept.heights; stepped = λ i v e h. swept.stepped i v e (among-class R k v h); kept = kept })
  where
    kept : (w : Corner) → is_corner_of R w ≡ true → (is_inner R w && is_among (class_corners R k) w) ≡ false → height R others w ≡ height R numbers w
    kept w of_region out = swept.kept w of_region (false_from_ne_true (is_inner R w && is_of_class R k w) (λ e. none (and_parts (is_inner R w) (is_of_class R k w) e)))
      where
        none : (is_inner R w ≡ true) × (is_of_class R k w ≡ true) → ⊥
        none (inner, of) =
            let among : is_among (class_corners R k) w ≡ true = class-among R k w (corner-In w (inner_corners R) (any-inner_corners R w accepted.placed ∙ inner)) of in
            cc (out, and_from (is_inner R w) (is_among (class_corners R k) w) inner among)
