-- What holds before each turn of the search, and how a turn begins.
use Rattle.std.proofs.Common.{◌≡◌, ◌≢◌, ◌⊎◌, inl, inr, ℕ, zero, suc, ◌+◌, ◌^◌, ◌<◌, ◌≤◌, List, [], ◌∷◌, length, Option, Some, None, refl, sym, ◌∙◌, ap, subst, arith, ℤ, pos, neg_ℤ, ◌+ℤ◌, ◌<ℤ◌, ◌≤ℤ◌}
use Rattle.std.specs.Prelude.{slice_get, slice_index, IsTrue}
use Rattle.std.proofs.lemmas.Bool.{cases_eq}
use Rattle.std.proofs.lemmas.Int.{ints}
use Rattle.std.proofs.lemmas.Option.{same_Some, slice_get_within, slice_get-get_or}
use Rattle.tl_search.specs.declared.spreading.Source.{Source}
use Rattle.tl_search.specs.declared.spreading.TheConstants.{UNREACHED}
use Rattle.tl_search.specs.Graphs.{GraphMeaning, IsGraph, has_step}
use Rattle.tl_search.specs.Spreading.{AreSources}
use Rattle.tl_search.specs.Searching.{number_of, AreFirstNumbers, IsTaken, IsTakenOfSources}
use Rattle.tl_search.proofs.Numbers.{below_reached, unreached, unreached-le}

abbrev pub IsSourceAt : List Source → ℕ → Type 0
IsSourceAt sources v = (i : ℕ) × (s : Source) × (slice_get sources i ≡ Some s) × (s.place ≡ v)

-- A place that has its number from another one. The other's number is not above the level.
pub record IsFrom (M : GraphMeaning) (numbers : List ℤ) (level : ℤ) (v : ℕ) : Type 0 where
  pub from : ℕ
  pub is_place : IsTrue (M.is_place from)
  pub leads : IsTrue (has_step M.steps from v)
  pub less : number_of numbers from +ℤ pos 1 ≡ number_of numbers v
  pub near : number_of numbers v ≤ℤ (level +ℤ pos 1)

abbrev pub IsReached : List ℤ → ℕ → Type 0
IsReached numbers v = number_of numbers v ≢ UNREACHED

-- what is known of the numbers, and of each place that has one
pub record IsKnown (M : GraphMeaning) (sources : List Source) (numbers : List ℤ) (level : ℤ) (v : ℕ) : Type 0 where
  pub is_place : IsTrue (M.is_place v)
  pub low : neg_ℤ (pos (2 ^ 30)) ≤ℤ number_of numbers v
  pub bounded : (number_of numbers v +ℤ pos (unreached numbers)) ≤ℤ pos (2 ^ 30 + M.count)
  pub cause : IsSourceAt sources v ⊎ IsFrom M numbers level v

pub record AreKnown (M : GraphMeaning) (sources : List Source) (numbers : List ℤ) (level : ℤ) : Type 0 where
  pub count : length numbers ≡ M.count
  pub own : (i : ℕ) (s : Source) → slice_get sources i ≡ Some s → number_of numbers s.place ≡ s.number
  pub known : (v : ℕ) → v < M.count → IsReached numbers v → IsKnown M sources numbers level v

-- The places of the queue have numbers, which rise along it and are no more than 1 above the level.
pub record IsQueue (M : GraphMeaning) (numbers : List ℤ) (queue : List ℕ) (level : ℤ) : Type 0 where
  pub inside : (i : ℕ) → i < length queue → slice_index queue i < M.count
  pub reached : (i : ℕ) → i < length queue → IsReached numbers (slice_index queue i)
  pub near : (i : ℕ) → i < length queue → number_of numbers (slice_index queue i) ≤ℤ (level +ℤ pos 1)
  pub in_order : (i j : ℕ) → i ≤ j → j < length queue → number_of numbers (slice_index queue i) ≤ℤ number_of numbers (slice_index queue j)

-- The numbers of those that wait are not below the level.
pub record IsLevel (sources : List Source) (numbers : List ℤ) (queue : List ℕ) (next : ℕ) (level : ℤ) : Type 0 where
  pub next_within : next ≤ length sources
  pub of_queue : (i : ℕ) → i < length queue → level ≤ℤ number_of numbers (slice_index queue i)
  pub of_sources : (i : ℕ) (s : Source) → next ≤ i → slice_get sources i ≡ Some s → level ≤ℤ s.number

pub record InQueue (queue : List ℕ) (v : ℕ) : Type 0 where
  pub i : ℕ
  pub within : i < length queue
  pub is : slice_index queue i ≡ v

pub record InSources (sources : List Source) (next v : ℕ) : Type 0 where
  pub i : ℕ
  pub source : Source
  pub waits : next ≤ i
  pub is_source : slice_get sources i ≡ Some source
  pub is : source.place ≡ v

-- each step from a place leads to a number that is no more than 1 above its own
abbrev pub IsDone : GraphMeaning → List ℤ → ℕ → Type 0
IsDone M numbers v = (w : ℕ) → IsTrue (has_step M.steps v w) → number_of numbers w ≤ℤ (number_of numbers v +ℤ pos 1)

abbrev pub IsSettled : GraphMeaning → List Source → List ℤ → List ℕ → ℕ → ℕ → Type 0
IsSettled M sources numbers queue next v = InQueue queue v ⊎ (InSources sources next v ⊎ IsDone M numbers v)

-- Each place that has a number waits or is done, but for those with the property Open.
pub record IsSearch (M : GraphMeaning) (sources : List Source) (numbers : List ℤ) (queue : List ℕ) (next : ℕ) (level : ℤ) (Open : ℕ → Type 0) : Type 0 where
  pub known : AreKnown M sources numbers level
  pub queued : IsQueue M numbers queue level
  pub levelled : IsLevel sources numbers queue next level
  pub settled : (v : ℕ) → v < M.count → IsReached numbers v → Open v ⊎ IsSettled M sources numbers queue next v

abbrev pub none : ℕ → Type 0
none v = ⊥

abbrev pub only : ℕ → ℕ → Type 0
only place v = v ≡ place

-- what holds before a turn
pub record IsSpreading (M : GraphMeaning) (sources : List Source) (numbers : List ℤ) (queue : List ℕ) (next : ℕ) : Type 0 where
  pub level : ℤ
  pub search : IsSearch M sources numbers queue next level none

-- The place whose turn it is. Its number is the level.
pub record IsTurn (M : GraphMeaning) (sources : List Source) (numbers : List ℤ) (queue : List ℕ) (next place : ℕ) (level : ℤ) : Type 0 where
  pub search : IsSearch M sources numbers queue next level (only place)
  pub level_is : number_of numbers place ≡ level
  pub inside : place < M.count
  pub reached : IsReached numbers place

AreKnown-raise : (M : GraphMeaning) (sources : List Source) (numbers : List ℤ) (level higher : ℤ) → level ≤ℤ higher → AreKnown M sources numbers level → AreKnown M sources numbers higher
AreKnown-raise M sources numbers level higher h k = record {
  count = k.count;
  own = k.own;
  known = λ v inside reached. raise v (k.known v inside reached);
}
  where
    cause : (v : ℕ) → IsSourceAt sources v ⊎ IsFrom M numbers level v → IsSourceAt sources v ⊎ IsFrom M numbers higher v
    cause v (inl s) = inl s
    cause v (inr f) = inr (record { from = f.from; is_place = f.is_place; leads = f.leads; less = f.less; near = omega (arith, ints, h, f.near) })

    raise : (v : ℕ) → IsKnown M sources numbers level v → IsKnown M sources numbers higher v
    raise v a = record { is_place = a.is_place; low = a.low; bounded = a.bounded; cause = cause v a.cause }

IsQueue-raise : (M : GraphMeaning) (numbers : List ℤ) (queue : List ℕ) (level higher : ℤ) → level ≤ℤ higher → IsQueue M numbers queue level → IsQueue M numbers queue higher
IsQueue-raise M numbers queue level higher h q = record {
  inside = q.inside;
  reached = q.reached;
  near = λ i within. omega (arith, ints, h, q.near i within);
  in_order = q.in_order;
}

-- those that are left in the queue where its first has left
IsQueue-rest : (M : GraphMeaning) (numbers : List ℤ) (place : ℕ) (queue : List ℕ) (level : ℤ) → IsQueue M numbers (place ∷ queue) level → IsQueue M numbers queue level
IsQueue-rest M numbers place queue level q = record {
  inside = λ i within. q.inside (suc i) (omega (arith, within));
  reached = λ i within. q.reached (suc i) (omega (arith, within));
  near = λ i within. q.near (suc i) (omega (arith, within));
  in_order = λ i j h within. q.in_order (suc i) (suc j) (omega (arith, h)) (omega (arith, within));
}

module _ (M : GraphMeaning) (sources : List Source) (is_graph : IsGraph M) (are_sources : AreSources M sources) where
  pub source-reached : (numbers : List ℤ) (level : ℤ) (i : ℕ) (s : Source) → AreKnown M sources numbers level → slice_get sources i ≡ Some s → IsReached numbers s.place
  source-reached numbers level i s k e =
      let high = are_sources.high i s e in
      let own = k.own i s e in
      below_reached (number_of numbers s.place) (omega (arith, ints, high, own))

  -- a number with 1 more is still one
  pub fits : (numbers : List ℤ) (level : ℤ) (v : ℕ) → AreKnown M sources numbers level → v < M.count → IsReached numbers v → (number_of numbers v +ℤ pos 1) <ℤ UNREACHED
  fits numbers level v k inside reached =
      let bounded = (k.known v inside reached).bounded in
      let few = is_graph.few in
      omega (arith, ints, bounded, few)

  -- the first of the queue leaves it
  module _ (numbers : List ℤ) (place : ℕ) (queue : List ℕ) (next : ℕ) (level : ℤ) (search : IsSearch M sources numbers (place ∷ queue) next level none) where
    turn-of_queue : (next' : ℕ) → next' ≡ next → ((s : Source) → slice_get sources next ≡ Some s → number_of numbers place <ℤ s.number) → IsTurn M sources numbers queue next' place (number_of numbers place)
    turn-of_queue next' next_is least = record {
      search = record {
        known = AreKnown-raise M sources numbers level (number_of numbers place) higher search.known;
        queued = IsQueue-rest M numbers place queue (number_of numbers place) (IsQueue-raise M numbers (place ∷ queue) level (number_of numbers place) higher search.queued);
        levelled = record {
          next_within = omega (arith, next_is, search.levelled.next_within);
          of_queue = λ i within. search.queued.in_order 0 (suc i) (omega arith) (omega (arith, within));
          of_sources = λ i s from e. of_sources i s (omega (arith, from, next_is)) e (slice_get sources next) refl;
        };
        settled = λ v inside reached. settled v (search.settled v inside reached);
      };
      level_is = refl;
      inside = search.queued.inside 0 (omega arith);
      reached = search.queued.reached 0 (omega arith);
    }
      where
        higher : level ≤ℤ number_of numbers place
        higher = search.levelled.of_queue 0 (omega arith)

        of_sources : (i : ℕ) (s : Source) → next ≤ i → slice_get sources i ≡ Some s → (o : Option Source) → slice_get sources next ≡ o → number_of numbers place ≤ℤ s.number
        of_sources i s from e None f =
            let within = slice_get_within sources i s e in
            cc (f, slice_get-get_or sources next s (omega (arith, from, within)))
        of_sources i s from e (Some t) f =
            let first = least t f in
            let later = are_sources.in_order next i t s from f e in
            omega (arith, ints, first, later)

        in_queue : (v i : ℕ) → i < length (place ∷ queue) → slice_index (place ∷ queue) i ≡ v → (v ≡ place) ⊎ IsSettled M sources numbers queue next' v
        in_queue v zero within e = inl (sym e)
        in_queue v (suc i) within e = inr (inl (record { i = i; within = omega (arith, within); is = e }))

        settled : (v : ℕ) → ⊥ ⊎ IsSettled M sources numbers (place ∷ queue) next v → (v ≡ place) ⊎ IsSettled M sources numbers queue next' v
        settled v (inl never) = absurd never
        settled v (inr (inl q)) = in_queue v q.i q.within q.is
        settled v (inr (inr (inl s))) = inr (inr (inl (record { i = s.i; source = s.source; waits = omega (arith, s.waits, next_is); is_source = s.is_source; is = s.is })))
        settled v (inr (inr (inr d))) = inr (inr (inr d))

  module _ (numbers : List ℤ) (queue : List ℕ) (next : ℕ) (level : ℤ) (search : IsSearch M sources numbers queue next level none) where
    turn-of_sources : (queue' : List ℕ) (next' place : ℕ) → IsTakenOfSources sources numbers queue next queue' next' place → IsTurn M sources numbers queue next' place (number_of numbers place)
    turn-of_sources queue' next' place taken = record {
      search = record {
        known = AreKnown-raise M sources numbers level (number_of numbers place) higher search.known;
        queued = IsQueue-raise M numbers queue level (number_of numbers place) higher search.queued;
        levelled = record {
          next_within = omega (arith, taken.next_is, slice_get_within sources next taken.source taken.is_source);
          of_queue = λ i within. of_queue i within;
          of_sources = λ i s from e.
              let later = are_sources.in_order next i taken.source s (omega (arith, from, taken.next_is)) taken.is_source e in
              omega (arith, ints, later, own);
        };
        settled = λ v inside reached. settled v (search.settled v inside reached);
      };
      level_is = refl;
      inside = is_graph.inside place (subst (λ v. IsTrue (M.is_place v)) (sym taken.place_is) (are_sources.places next taken.source taken.is_source));
      reached = subst (λ v. IsReached numbers v) (sym taken.place_is) (source-reached numbers level next taken.source search.known taken.is_source);
    }
      where
        own : number_of numbers place ≡ taken.source.number
        own = ap (number_of numbers) taken.place_is ∙ search.known.own next taken.source taken.is_source

        higher : level ≤ℤ number_of numbers place
        higher = let h = search.levelled.of_sources next taken.source (omega arith) taken.is_source in omega (arith, ints, h, own)

        of_queue : (i : ℕ) → i < length queue → number_of numbers place ≤ℤ number_of numbers (slice_index queue i)
        of_queue i within =
            let first = taken.least (omega (arith, within)) in
            let later = search.queued.in_order 0 i (omega arith) within in
            omega (arith, ints, first, later, own)

        in_sources : (v : ℕ) (s : InSources sources next v) → (s.i ≡ next) ⊎ (s.i ≡ next → ⊥) → (v ≡ place) ⊎ IsSettled M sources numbers queue next' v
        in_sources v s (inl e) =
            let same : s.source ≡ taken.source = same_Some s.source taken.source (sym s.is_source ∙ (ap (slice_get sources) e ∙ taken.is_source)) in
            inl (sym s.is ∙ (ap (λ (t : Source). t.place) same ∙ sym taken.place_is))
        in_sources v s (inr other) = inr (inr (inl (record { i = s.i; source = s.source; waits = omega (arith, s.waits, other, taken.next_is); is_source = s.is_source; is = s.is })))

        settled : (v : ℕ) → ⊥ ⊎ IsSettled M sources numbers queue next v → (v ≡ place) ⊎ IsSettled M sources numbers queue next' v
        settled v (inl never) = absurd never
        settled v (inr (inl q)) = inr (inl q)
        settled v (inr (inr (inl s))) = in_sources v s (cases_eq s.i next)
        settled v (inr (inr (inr d))) = inr (inr (inr d))

  -- a turn begins
  pub turn : (numbers : List ℤ) (queue : List ℕ) (next : ℕ) (queue' : List ℕ) (next' place : ℕ) → IsSpreading M sources numbers queue next
      → IsTaken sources numbers queue next queue' next' (Some place) → IsTurn M sources numbers queue' next' place (number_of numbers place)
  turn numbers queue next queue' next' place s (inl t) =
      turn-of_queue numbers place queue' next s.level (subst (λ (q : List ℕ). IsSearch M sources numbers q next s.level none) t.queue_is s.search) next' t.next_is t.least
  turn numbers queue next queue' next' place s (inr t) =
      subst (λ (q : List ℕ). IsTurn M sources numbers q next' place (number_of numbers place)) (sym t.queue_is)
      (turn-of_sources numbers queue next s.level s.search queue' next' place t)

  -- before the first turn
  pub first-search : (numbers : List ℤ) → AreFirstNumbers M sources numbers → IsSpreading M sources numbers [] 0
  first-search numbers first = record {
    level = neg_ℤ (pos (2 ^ 30));
    search = record {
      known = record { count = first.count; own = first.own; known = λ v inside reached. known v (first.others v inside reached) };
      queued = record {
        inside = λ i h. absurd (omega (arith, h));
        reached = λ i h. absurd (omega (arith, h));
        near = λ i h. absurd (omega (arith, h));
        in_order = λ i j h k. absurd (omega (arith, k));
      };
      levelled = record {
        next_within = omega arith;
        of_queue = λ i h. absurd (omega (arith, h));
        of_sources = λ i s h e. are_sources.low i s e;
      };
      settled = λ v inside reached. inr (inr (inl (waits v (first.others v inside reached))));
    };
  }
    where
      known : (v : ℕ) → IsSourceAt sources v → IsKnown M sources numbers (neg_ℤ (pos (2 ^ 30))) v
      known v (i, s, e, at) =
          let own : number_of numbers v ≡ s.number = ap (number_of numbers) (sym at) ∙ first.own i s e in
          let low = are_sources.low i s e in
          let high = are_sources.high i s e in
          record {
            is_place = subst (λ u. IsTrue (M.is_place u)) at (are_sources.places i s e);
            low = omega (arith, ints, own, low);
            bounded = omega (arith, ints, own, high, unreached-le numbers, first.count);
            cause = inl (i, s, e, at);
          }

      waits : (v : ℕ) → IsSourceAt sources v → InSources sources 0 v
      waits v (i, s, e, at) = record { i = i; source = s; waits = omega arith; is_source = e; is = at }
