-- Sources one after the other along the circuit, and in the order of their numbers.
use Rattle.std.proofs.Common.{◌≡◌, ◌⊎◌, inl, inr, ℕ, zero, suc, ◌+◌, ◌-◌, ◌<◌, ◌≤◌, Bool, false, List, [], ◌∷◌, ◌++◌, length, get_or, Some, refl, sym, ◌∙◌, ap, subst, arith, ℤ, pos, ◌≤ℤ◌, ◌<ℤ◌}
use Rattle.std.specs.Prelude.{slice_get}
use Rattle.std.specs.List.{Contains}
use Rattle.std.specs.List.Sorted.{IsPermutation, IsSortedByKey}
use Rattle.std.specs.Ordering.{int_cmp, is_lt, MatchOrdering}
use Rattle.std.specs.declared.cmp.Ordering.{Ordering}
use Rattle.std.specs.declared.cmp.Ordering.TheVariants.{Less, Equal, Greater}
use Rattle.std.specs.Cmp.{int_ranks}
use Rattle.std.proofs.lemmas.Bool.{false≢true}
use Rattle.std.proofs.lemmas.Int.{ints}
use Rattle.std.proofs.lemmas.List.{length-map}
use Rattle.std.proofs.lemmas.List.Sorted.{Contains-permutation, IsPermutation-sym}
use Rattle.std.proofs.lemmas.Option.{slice_get-get_or, slice_get_within, get_or_from_slice_get}
use Rattle.tl_definitions.specs.declared.Corner.{Corner}
use Rattle.tl_definitions.specs.Lattice.{Side}
use Rattle.tl_definitions.specs.Region.{Region}
use Rattle.tl_definitions.specs.Accepted.{circuit_corners}
use Rattle.tl_search.specs.declared.spreading.Source.{Source}
use Rattle.tl_extreme.specs.Sources.{IsSourceAt, IsSmall, AreFromCircuit}

-- ---- along the circuit

pub record AreSourcesOf (R : Region) (walk : List Side) (negated : Bool) (k : ℕ) (sources : List Source) : Type 0 where
  pub count : length sources ≡ k
  pub at : (i : ℕ) (s : Source) → slice_get sources i ≡ Some s → IsSourceAt R walk negated i s × IsSmall s

get-push : {A : Type 0} (xs : List A) (y x : A) (i : ℕ) → slice_get (xs ++ y ∷ []) i ≡ Some x → (slice_get xs i ≡ Some x) ⊎ ((i ≡ length xs) × (y ≡ x))
get-push [] y x zero e = inr (refl, cc e)
get-push [] y x (suc i) e = cc e
get-push (z ∷ xs) y x zero e = inl e
get-push (z ∷ xs) y x (suc i) e = go (get-push xs y x i e)
  where
    go : (slice_get xs i ≡ Some x) ⊎ ((i ≡ length xs) × (y ≡ x)) → (slice_get xs i ≡ Some x) ⊎ ((suc i ≡ suc (length xs)) × (y ≡ x))
    go (inl h) = inl h
    go (inr (h, same)) = inr (ap suc h, same)

length-push : {A : Type 0} (xs : List A) (y : A) → length (xs ++ y ∷ []) ≡ length xs + 1
length-push [] y = refl
length-push (x ∷ xs) y = let e = length-push xs y in omega (arith, e)

module _ (R : Region) (walk : List Side) (negated : Bool) where
  pub sources-none : AreSourcesOf R walk negated 0 []
  sources-none = record { count = refl; at = λ i s e. absurd (none i s e) }
    where
      none : (i : ℕ) (s : Source) → slice_get [] i ≡ Some s → ⊥
      none i s e = absurd (cc e)

  pub sources-more : (k : ℕ) (sources : List Source) (s : Source) → AreSourcesOf R walk negated k sources → IsSourceAt R walk negated k s × IsSmall s
      → AreSourcesOf R walk negated (k + 1) (sources ++ s ∷ [])
  sources-more k sources s so_far here =
      record {
        count = length-push sources s ∙ ap (λ (n : ℕ). n + 1) so_far.count;
        at = λ i t e. go i t (get-push sources s t i e);
      }
    where
      go : (i : ℕ) (t : Source) → (slice_get sources i ≡ Some t) ⊎ ((i ≡ length sources) × (s ≡ t)) → IsSourceAt R walk negated i t × IsSmall t
      go i t (inl e) = so_far.at i t e
      go i t (inr (last, same)) =
          subst (λ (n : ℕ). IsSourceAt R walk negated n t × IsSmall t) (sym (last ∙ so_far.count)) (subst (λ (u : Source). IsSourceAt R walk negated k u × IsSmall u) same here)

  contains-get : (xs : List Source) (s : Source) → Contains xs s → (i : ℕ) × (slice_get xs i ≡ Some s)
  contains-get xs s (k, within, is) = (k, slice_get-get_or xs k s within ∙ ap (λ (t : Source). Some t) is)

  get-contains : (xs : List Source) (i : ℕ) (s : Source) → slice_get xs i ≡ Some s → Contains xs s
  get-contains xs i s e = (i, slice_get_within xs i s e, get_or_from_slice_get xs i s s e)

  -- in any order they are one source for each place of the circuit
  pub sources-moved : (k : ℕ) (xs ys : List Source) → k ≡ length walk → AreSourcesOf R walk negated k xs → IsPermutation xs ys → AreFromCircuit R walk negated ys
  sources-moved k xs ys whole all moved =
      record { from_place = from; each_place = each }
    where
      from : (i : ℕ) (s : Source) → slice_get ys i ≡ Some s → (n : ℕ) × IsSourceAt R walk negated n s
      from i s e =
          let (n, at) = contains-get xs s (Contains-permutation ys xs s (IsPermutation-sym xs ys moved) (get-contains ys i s e)) in
          (n, (all.at n s at).0)

      each : (n : ℕ) (v : Corner) → slice_get (circuit_corners walk) n ≡ Some v → (i : ℕ) × (s : Source) × (slice_get ys i ≡ Some s) × IsSourceAt R walk negated n s
      each n v e =
          let inside = slice_get_within (circuit_corners walk) n v e in
          let below : n < length xs = omega (arith, inside, length-map walk (λ (s : Side). s.from), whole, all.count) in
          let d : Source = record { place = 0; number = pos 0 } in
          let s = get_or xs n d in
          let at : slice_get xs n ≡ Some s = slice_get-get_or xs n d below in
          let (i, there) = contains-get ys s (Contains-permutation xs ys s moved (get-contains xs n s at)) in
          (i, s, there, (all.at n s at).0)

  pub moved-small : (k : ℕ) (xs ys : List Source) → AreSourcesOf R walk negated k xs → IsPermutation xs ys → (i : ℕ) (s : Source) → slice_get ys i ≡ Some s → IsSmall s
  moved-small k xs ys all moved i s e =
      let (n, at) = contains-get xs s (Contains-permutation ys xs s (IsPermutation-sym xs ys moved) (get-contains ys i s e)) in
      (all.at n s at).1

-- ---- in order

not-less : (a b : ℤ) → is_lt (int_cmp a b) ≡ false → b ≤ℤ a
not-less a b e = go (int_cmp a b) (int_ranks a b) e
  where
    go : (o : Ordering) → MatchOrdering o (a <ℤ b) (a ≡ b) (b <ℤ a) → is_lt o ≡ false → b ≤ℤ a
    go Less h f = absurd (false≢true (sym f))
    go Equal h f = omega (arith, ints, h)
    go Greater h f = omega (arith, ints, h)

module _ (xs : List Source) (sorted : IsSortedByKey (λ (s : Source). s.number) int_cmp xs) where
  rises : (n i : ℕ) (d : Source) → i + n < length xs → (get_or xs i d).number ≤ℤ (get_or xs (i + n) d).number
  rises zero i d h = let same : i + 0 ≡ i = omega arith in subst (λ (j : ℕ). (get_or xs i d).number ≤ℤ (get_or xs j d).number) (sym same) (omega (arith, ints))
  rises (suc n) i d h =
      let same : (i + n) + 1 ≡ i + suc n = omega arith in
      let before = rises n i d (omega (arith, h)) in
      let step = not-less (get_or xs ((i + n) + 1) d).number (get_or xs (i + n) d).number (sorted (i + n) d (omega arith) (omega (arith, h))) in
      subst (λ (j : ℕ). (get_or xs i d).number ≤ℤ (get_or xs j d).number) same (omega (arith, ints, before, step))

  pub sorted-rises : (i j : ℕ) (s t : Source) → i ≤ j → slice_get xs i ≡ Some s → slice_get xs j ≡ Some t → s.number ≤ℤ t.number
  sorted-rises i j s t le e f =
      let inside = slice_get_within xs j t f in
      let sum : i + (j - i) ≡ j = omega (arith, le) in
      let h = rises (j - i) i s (omega (arith, inside, sum)) in
      let low : (get_or xs i s).number ≡ s.number = ap (λ (u : Source). u.number) (get_or_from_slice_get xs i s s e) in
      let high : (get_or xs (i + (j - i)) s).number ≡ t.number = ap (λ (k : ℕ). (get_or xs k s).number) sum ∙ ap (λ (u : Source). u.number) (get_or_from_slice_get xs j t s f) in
      omega (arith, ints, h, low, high)
