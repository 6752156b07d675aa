-- The steps of a place stand in an array of three, and are taken one after the other.
use Rattle.std.proofs.Common.{◌≡◌, inl, inr, ℕ, ◌<◌, Bool, true, false, List, [], ◌∷◌, length, get_or, Option, Some, None, refl, sym, ◌∙◌, ap, subst, arith, ℤ, pos, ◌+ℤ◌, ◌<ℤ◌}
use Rattle.std.specs.Prelude.{IsTrue}
use Rattle.std.specs.List.{cons_option}
use Rattle.std.proofs.lemmas.Int.{ints}
use Rattle.std.proofs.lemmas.Option.{slice_get-get_or}
use Rattle.tl_lists.specs.Lists.{present}
use Rattle.tl_lists.proofs.Members.{In, In-filter_map, slice_get-In}
use Rattle.tl_search.specs.declared.spreading.TheConstants.{UNREACHED}
use Rattle.tl_search.specs.Graphs.{GraphMeaning, IsGraph}
use Rattle.tl_search.specs.Searching.{number_of, IsOffered, AreGiven, ArePassed, IsPlaceOf, HasNumber, IsBefore}
use Rattle.tl_search.proofs.Paths.{has_step-In, In-has_step}

three : (steps : List (Option ℕ)) → length steps ≡ 3 → present steps ≡ cons_option (get_or steps 0 None) (cons_option (get_or steps 1 None) (cons_option (get_or steps 2 None) []))
three [] e = absurd (omega (arith, e))
three (a ∷ []) e = absurd (omega (arith, e))
three (a ∷ b ∷ []) e = absurd (omega (arith, e))
three (a ∷ b ∷ c ∷ []) e = refl
three (a ∷ b ∷ c ∷ d ∷ steps) e = absurd (omega (arith, e))

target-In : (steps : List (Option ℕ)) (k v : ℕ) → k < length steps → get_or steps k None ≡ Some v → In v (present steps)
target-In steps k v h e = In-filter_map (λ o. o) (get_or steps k None) v steps (slice_get-In steps k (get_or steps k None) (slice_get-get_or steps k None h)) e

module _ (M : GraphMeaning) (is_graph : IsGraph M) (place : ℕ) (is_place : IsTrue (M.is_place place)) (steps : List (Option ℕ)) (same_length : length steps ≡ 3) where
  within : (numbers : List ℤ) → length numbers ≡ M.count → (o : Option ℕ) → ((v : ℕ) → o ≡ Some v → IsTrue (M.is_place v)) → IsPlaceOf numbers o
  within numbers count None f = tt
  within numbers count (Some v) f = subst (λ n. v < n) (sym count) (is_graph.inside v (f v refl))

  pub steps-within : present steps ≡ M.steps place → (numbers : List ℤ) → length numbers ≡ M.count → (k : ℕ) → k < 3 → IsPlaceOf numbers (get_or steps k None)
  steps-within e numbers count k h =
      within numbers count (get_or steps k None)
      (λ v at. is_graph.to_places place v is_place (In-has_step M.steps place v (subst (In v) e (target-In steps k v (omega (arith, h, same_length)) at))))

  pub back-within : present steps ≡ M.back place → (numbers : List ℤ) → length numbers ≡ M.count → (k : ℕ) → k < 3 → IsPlaceOf numbers (get_or steps k None)
  back-within e numbers count k h =
      within numbers count (get_or steps k None)
      (λ v at. is_graph.from_places v place is_place (In-has_step M.back place v (subst (In v) e (target-In steps k v (omega (arith, h, same_length)) at))))

  -- ---- a step back to a number that is less by 1

  pub before-found : present steps ≡ M.back place → (numbers : List ℤ) (number : ℤ) → number +ℤ pos 1 ≡ number_of numbers place → (k : ℕ) → k < 3
      → HasNumber numbers number (get_or steps k None) → IsBefore M numbers place (get_or steps k None)
  before-found e numbers number less k h has = go (get_or steps k None) refl has
    where
      go : (o : Option ℕ) → get_or steps k None ≡ o → HasNumber numbers number o → IsBefore M numbers place o
      go None at has = absurd has
      go (Some v) at has = (
        In-has_step M.back place v (subst (In v) e (target-In steps k v (omega (arith, h, same_length)) at)),
        ap (λ (z : ℤ). z +ℤ pos 1) has ∙ less,
      )

  pub before-none : present steps ≡ M.back place → (numbers : List ℤ) (number : ℤ) → number_of numbers place ≡ number +ℤ pos 1
      → (HasNumber numbers number (get_or steps 0 None) → ⊥) → (HasNumber numbers number (get_or steps 1 None) → ⊥) → (HasNumber numbers number (get_or steps 2 None) → ⊥)
      → IsBefore M numbers place None
  before-none e numbers number less first second third u step less_by_1 =
      next (get_or steps 2 None) [] third
      (next (get_or steps 1 None) (cons_option (get_or steps 2 None) []) second
      (next (get_or steps 0 None) (cons_option (get_or steps 1 None) (cons_option (get_or steps 2 None) [])) first
      (subst (In u) (sym e ∙ three steps same_length) (has_step-In M.back place u step))))
    where
      has : number_of numbers u ≡ number
      has = omega (arith, ints, less_by_1, less)

      next : (o : Option ℕ) (rest : List ℕ) → (HasNumber numbers number o → ⊥) → In u (cons_option o rest) → In u rest
      next None rest not i = i
      next (Some v) rest not (inl same) = absurd (not (ap (number_of numbers) (sym same) ∙ has))
      next (Some v) rest not (inr i) = i

-- ---- a number passed on

-- one step more before the others
passed-more : (number : ℤ) (o : Option ℕ) (places : List ℕ) (numbers : List ℤ) (queue : List ℕ) (between : List ℤ) (waiting : List ℕ) (numbers' : List ℤ) (queue' : List ℕ) (stop : Option ℕ)
    → IsOffered number o numbers queue between waiting false → ArePassed number places between waiting numbers' queue' stop
    → ArePassed number (cons_option o places) numbers queue numbers' queue' stop
passed-more number None places numbers queue between waiting numbers' queue' stop (e, f, g) p =
    subst (λ (l : List ℤ). ArePassed number places l queue numbers' queue' stop) f
    (subst (λ (q : List ℕ). ArePassed number places between q numbers' queue' stop) g p)
passed-more number (Some to) places numbers queue between waiting numbers' queue' None given p = (between, waiting, given, p)
passed-more number (Some to) places numbers queue between waiting numbers' queue' (Some stop) given p = record {
  front = to ∷ p.front;
  back = p.back;
  places_are = ap (λ (l : List ℕ). to ∷ l) p.places_are;
  given = (between, waiting, given, p.given);
  greater = p.greater;
  reached = p.reached;
}

-- a step that stops it
passed-stop : (number : ℤ) (o : Option ℕ) (places : List ℕ) (numbers : List ℤ) (queue : List ℕ) (numbers' : List ℤ) (queue' : List ℕ)
    → IsOffered number o numbers queue numbers' queue' true → ArePassed number (cons_option o places) numbers queue numbers' queue' o
passed-stop number None places numbers queue numbers' queue' (e, f, g) = cc e
passed-stop number (Some to) places numbers queue numbers' queue' stop = record {
  front = [];
  back = places;
  places_are = refl;
  given = (stop.numbers_same, stop.queue_same);
  greater = subst (λ (l : List ℤ). number <ℤ number_of l to) (sym stop.numbers_same) stop.greater;
  reached = subst (λ (l : List ℤ). ¬ (number_of l to ≡ UNREACHED)) (sym stop.numbers_same) stop.reached;
}

module _ (steps : List (Option ℕ)) (places : List ℕ) (same_length : length steps ≡ 3) (are : present steps ≡ places) (number : ℤ) (numbers : List ℤ) (queue : List ℕ) where
  all : (numbers' : List ℤ) (queue' : List ℕ) (stop : Option ℕ)
      → ArePassed number (cons_option (get_or steps 0 None) (cons_option (get_or steps 1 None) (cons_option (get_or steps 2 None) []))) numbers queue numbers' queue' stop
      → ArePassed number places numbers queue numbers' queue' stop
  all numbers' queue' stop p = subst (λ (l : List ℕ). ArePassed number l numbers queue numbers' queue' stop) (sym (three steps same_length) ∙ are) p

  pub stopped-first : (numbers' : List ℤ) (queue' : List ℕ) (t : Bool) → t ≡ true → IsOffered number (get_or steps 0 None) numbers queue numbers' queue' t
      → ArePassed number places numbers queue numbers' queue' (get_or steps 0 None)
  stopped-first numbers' queue' t e p =
      all numbers' queue' (get_or steps 0 None)
      (passed-stop number (get_or steps 0 None) (cons_option (get_or steps 1 None) (cons_option (get_or steps 2 None) [])) numbers queue numbers' queue'
      (subst (IsOffered number (get_or steps 0 None) numbers queue numbers' queue') e p))

  module _ (numbers-1 : List ℤ) (queue-1 : List ℕ) (t : Bool) (e : t ≡ false) (first : IsOffered number (get_or steps 0 None) numbers queue numbers-1 queue-1 t) where
    past_first : (numbers' : List ℤ) (queue' : List ℕ) (stop : Option ℕ) → ArePassed number (cons_option (get_or steps 1 None) (cons_option (get_or steps 2 None) [])) numbers-1 queue-1 numbers' queue' stop
        → ArePassed number places numbers queue numbers' queue' stop
    past_first numbers' queue' stop p =
        all numbers' queue' stop
        (passed-more number (get_or steps 0 None) (cons_option (get_or steps 1 None) (cons_option (get_or steps 2 None) [])) numbers queue numbers-1 queue-1 numbers' queue' stop
        (subst (IsOffered number (get_or steps 0 None) numbers queue numbers-1 queue-1) e first) p)

    pub stopped-second : (numbers' : List ℤ) (queue' : List ℕ) (t : Bool) → t ≡ true → IsOffered number (get_or steps 1 None) numbers-1 queue-1 numbers' queue' t
        → ArePassed number places numbers queue numbers' queue' (get_or steps 1 None)
    stopped-second numbers' queue' t e p =
        past_first numbers' queue' (get_or steps 1 None)
        (passed-stop number (get_or steps 1 None) (cons_option (get_or steps 2 None) []) numbers-1 queue-1 numbers' queue'
        (subst (IsOffered number (get_or steps 1 None) numbers-1 queue-1 numbers' queue') e p))

    module _ (numbers-2 : List ℤ) (queue-2 : List ℕ) (u : Bool) (f : u ≡ false) (second : IsOffered number (get_or steps 1 None) numbers-1 queue-1 numbers-2 queue-2 u) where
      past_second : (numbers' : List ℤ) (queue' : List ℕ) (stop : Option ℕ) → ArePassed number (cons_option (get_or steps 2 None) []) numbers-2 queue-2 numbers' queue' stop
          → ArePassed number places numbers queue numbers' queue' stop
      past_second numbers' queue' stop p =
          past_first numbers' queue' stop
          (passed-more number (get_or steps 1 None) (cons_option (get_or steps 2 None) []) numbers-1 queue-1 numbers-2 queue-2 numbers' queue' stop
          (subst (IsOffered number (get_or steps 1 None) numbers-1 queue-1 numbers-2 queue-2) f second) p)

      pub stopped-third : (numbers' : List ℤ) (queue' : List ℕ) (t : Bool) → t ≡ true → IsOffered number (get_or steps 2 None) numbers-2 queue-2 numbers' queue' t
          → ArePassed number places numbers queue numbers' queue' (get_or steps 2 None)
      stopped-third numbers' queue' t e p =
          past_second numbers' queue' (get_or steps 2 None)
          (passed-stop number (get_or steps 2 None) [] numbers-2 queue-2 numbers' queue'
          (subst (IsOffered number (get_or steps 2 None) numbers-2 queue-2 numbers' queue') e p))

      pub passed-all : (numbers' : List ℤ) (queue' : List ℕ) (t : Bool) → t ≡ false → IsOffered number (get_or steps 2 None) numbers-2 queue-2 numbers' queue' t
          → AreGiven number places numbers queue numbers' queue'
      passed-all numbers' queue' t e p =
          past_second numbers' queue' None
          (passed-more number (get_or steps 2 None) [] numbers-2 queue-2 numbers' queue' numbers' queue' None
          (subst (IsOffered number (get_or steps 2 None) numbers-2 queue-2 numbers' queue') e p) (refl, refl))
