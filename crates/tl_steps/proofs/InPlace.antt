-- The steps at a class made in place, part by part.
use Rattle.std.proofs.Common.{◌≡◌, ℕ, ◌⊎◌, inl, inr, Bool, true, false, ◌&&◌, ◌||◌, List, Some, refl, sym, ◌∙◌, ap, ℤ}
use Rattle.std.specs.Prelude.{slice_get}
use Rattle.std.proofs.lemmas.Bool.{and_parts, and_from, eqb-true, false_from_ne_true, or_cases, or_left, or_right}
use Rattle.tl_definitions.specs.declared.Corner.{Corner}
use Rattle.tl_definitions.specs.Lattice.{class_of}
use Rattle.tl_definitions.specs.Region.{Region, inner_corners, is_corner_of, is_inner}
use Rattle.tl_definitions.specs.Heights.{height}
use Rattle.tl_definitions.proofs.InnerNumbers.{inner-at}
use Rattle.tl_closing.proofs.Stated.{inner-of_region}
use Rattle.tl_steps.specs.Stepping.{AreSwept, is_of_class, stepped_height}
use Rattle.tl_steps.proofs.Read.{IsBeside, beside-class, beside-corner, stepped-same}

module _ (R : Region) (numbers middle others : List ℤ) (bits : ℕ → Bool) (k : ℕ) (first second : Corner → Bool)
    (first_class : (v : Corner) → first v ≡ true → is_of_class R k v ≡ true) (second_class : (v : Corner) → second v ≡ true → is_of_class R k v ≡ true)
    (before : AreSwept R numbers middle bits first) (after : AreSwept R middle others bits second) where
  -- what a step of the second part reads was not changed in the first
  beside-kept : (v u : Corner) → is_inner R v ≡ true → second v ≡ true → IsBeside R.kind v u → height R middle u ≡ height R numbers u
  beside-kept v u inner h beside = before.kept u (beside-corner R v u inner beside) (false_from_ne_true (is_inner R u && first u) (λ e. none (and_parts (is_inner R u) (first u) e).1))
    where
      none : first u ≡ true → ⊥
      none f = beside-class R.kind v u beside (eqb-true (class_of R.kind u) k (first_class u f) ∙ sym (eqb-true (class_of R.kind v) k (second_class v h)))

  pub both-swept : AreSwept R numbers others bits (λ v. first v || second v)
  both-swept = record { heights = after.heights; stepped = stepped; kept = kept }
    where
      stepped : (i : ℕ) (v : Corner) → slice_get (inner_corners R) i ≡ Some v → (first v || second v) ≡ true → height R others v ≡ stepped_height R numbers v (bits i)
      stepped i v e h = go (second v) refl
        where
          inner : is_inner R v ≡ true
          inner = inner-at R v i e

          only_first : second v ≡ false → (first v ≡ true) ⊎ (second v ≡ true) → height R others v ≡ stepped_height R numbers v (bits i)
          only_first none (inl f) = after.kept v (inner-of_region R v inner) (ap (λ (t : Bool). is_inner R v && t) none ∙ false_from_ne_true (is_inner R v && false) (λ g. cc ((and_parts (is_inner R v) false g).1))) ∙ before.stepped i v e f
          only_first none (inr f) = cc (none, f)

          go : (t : Bool) → second v ≡ t → height R others v ≡ stepped_height R numbers v (bits i)
          go true f = after.stepped i v e f ∙ stepped-same R middle numbers v (bits i) (λ u beside. beside-kept v u inner f beside)
          go false f = only_first f (or_cases (first v) (second v) h)

      kept : (w : Corner) → is_corner_of R w ≡ true → (is_inner R w && (first w || second w)) ≡ false → height R others w ≡ height R numbers w
      kept w of_region out =
          after.kept w of_region (false_from_ne_true (is_inner R w && second w) (λ e. let p = and_parts (is_inner R w) (second w) e in some p.0 (or_right (first w) (second w) p.1)))
          ∙ before.kept w of_region (false_from_ne_true (is_inner R w && first w) (λ e. let p = and_parts (is_inner R w) (first w) e in some p.0 (or_left (first w) (second w) p.1)))
        where
          some : is_inner R w ≡ true → (first w || second w) ≡ true → ⊥
          some inner h = let yes : (is_inner R w && (first w || second w)) ≡ true = and_from (is_inner R w) (first w || second w) inner h in cc (out, yes)
