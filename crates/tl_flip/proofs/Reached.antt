-- Corners at which the target is reached, one inner corner after another.
use Rattle.std.proofs.Common.{◌≡◌, ◌⊎◌, inl, inr, ℕ, ◌+◌, ◌<◌, ◌≤◌, true, false, List, Some, length, sym, ◌∙◌, ap, subst, arith, ℤ, ◌≤ℤ◌}
use Rattle.std.specs.Prelude.{slice_get, map, IsTrue}
use Rattle.std.specs.Ordering.{int_eq}
use Rattle.std.proofs.lemmas.Bool.{cases_Bool, cases_lt}
use Rattle.std.proofs.lemmas.Option.{slice_get_within}
use Rattle.std.proofs.lemmas.Bool.Decides.{Decides-int_eq}
use Rattle.std.proofs.lemmas.Int.{ints}
use Rattle.std.proofs.lemmas.List.{map-id}
use Rattle.tl_definitions.specs.declared.Corner.{Corner}
use Rattle.tl_definitions.specs.Region.{Region, inner_corners, is_corner_of}
use Rattle.tl_definitions.specs.Heights.{height}
use Rattle.tl_definitions.proofs.InnerNumbers.{any-inner_corners, inner-at}
use Rattle.tl_definitions.proofs.Walks.{corner-In}
use Rattle.tl_lists.proofs.Members.{In-slice_get}
use Rattle.tl_closing.proofs.Stated.{inner-of_region}
use Rattle.tl_lawful.proofs.Stated.{apart-inner}
use Rattle.tl_flip.specs.Approach.{AreTwo, HasReached, counted}
use Rattle.tl_flip.specs.declared.direction.Direction.{Direction}
use Rattle.tl_flip.specs.declared.direction.Direction.TheVariants.{Up, Down}

-- those before number i
abbrev pub ReachedBefore : Direction → Region → List ℤ → List ℤ → ℕ → Type 0
ReachedBefore way R here target i = (k : ℕ) (v : Corner) → k < i → slice_get (inner_corners R) k ≡ Some v → HasReached way R here target v

module _ (way : Direction) (R : Region) (target : List ℤ) where
  pub reached-more : (here next : List ℤ) (i : ℕ) (corner : Corner) → ReachedBefore way R here target i → slice_get (inner_corners R) i ≡ Some corner
      → ((v : Corner) → IsTrue (is_corner_of R v) → counted way R here v ≤ℤ counted way R next v) → HasReached way R next target corner → ReachedBefore way R next target (i + 1)
  reached-more here next i corner before at onward reached k v l e = go (cases_lt k i)
    where
      go : (k < i) ⊎ (i ≤ k) → HasReached way R next target v
      go (inl m) =
          let past = before k v m e in
          let on = onward v (inner-of_region R v (inner-at R v k e)) in
          omega (arith, ints, past, on)
      go (inr m) =
          let here : k ≡ i = omega (arith, l, m) in
          let same : corner ≡ v = cc (at, e, here) in
          subst (λ (u : Corner). HasReached way R next target u) same reached

  -- on the circuit all lawful heights are the same
  pub reached-all : (here : List ℤ) → AreTwo R here target → ReachedBefore way R here target (length (inner_corners R)) → (v : Corner) → is_corner_of R v ≡ true → HasReached way R here target v
  reached-all here two before v of_region = go (cases_Bool (int_eq (height R here v) (height R target v)))
    where
      level : (way : Direction) → height R here v ≡ height R target v → HasReached way R here target v
      level Up e = omega (arith, ints, e)
      level Down e = omega (arith, ints, e)

      at_number : (k : ℕ) × (slice_get (map (λ (u : Corner). u) (inner_corners R)) k ≡ Some v) → HasReached way R here target v
      at_number (k, e) = let at = ap (λ (vs : List Corner). slice_get vs k) (sym (map-id (inner_corners R))) ∙ e in before k v (slice_get_within (inner_corners R) k v at) at

      go : (int_eq (height R here v) (height R target v) ≡ true) ⊎ (int_eq (height R here v) (height R target v) ≡ false) → HasReached way R here target v
      go (inl e) = level way ((Decides-int_eq (height R here v) (height R target v)).0 e)
      go (inr e) =
          let inner = apart-inner R here target two.accepted two.first two.second v of_region (λ same. cc (e, (Decides-int_eq (height R here v) (height R target v)).1 same)) in
          at_number (In-slice_get (λ (u : Corner). u) v (inner_corners R) (corner-In v (inner_corners R) (any-inner_corners R v two.accepted.placed ∙ inner)))
