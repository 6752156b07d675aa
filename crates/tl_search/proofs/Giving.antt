-- A turn of the search: its place gives the next number to those to which steps lead.
use Rattle.std.proofs.Common.{◌≡◌, ◌≢◌, ◌⊎◌, inl, inr, ℕ, ◌+◌, ◌-◌, ◌<◌, ◌≤◌, List, [], ◌∷◌, ◌++◌, length, Some, refl, sym, ◌∙◌, ap, subst, arith, ℤ, pos, ◌+ℤ◌, ◌<ℤ◌, ◌≤ℤ◌}
use Rattle.std.specs.Prelude.{slice_index, slice_set, IsTrue}
use Rattle.std.proofs.lemmas.Bool.{cases_eq}
use Rattle.std.proofs.lemmas.Int.{ints}
use Rattle.std.proofs.lemmas.List.{length-set, length_push, get_or_append_left, get_or_push}
use Rattle.std.proofs.lemmas.Option.{slice_get_within}
use Rattle.tl_lists.proofs.Members.{In}
use Rattle.tl_search.specs.declared.spreading.Source.{Source}
use Rattle.tl_search.specs.declared.spreading.TheConstants.{UNREACHED}
use Rattle.tl_search.specs.Graphs.{GraphMeaning, IsGraph, has_step}
use Rattle.tl_search.specs.Spreading.{AreSources}
use Rattle.tl_search.specs.Searching.{number_of, IsTaken, IsGiven, AreGiven}
use Rattle.tl_search.proofs.Numbers.{written, not_written, below_reached, unreached, unreached-written}
use Rattle.tl_search.proofs.Paths.{has_step-In}
use Rattle.tl_search.proofs.Search.{IsSourceAt, IsFrom, IsReached, IsKnown, IsQueue, IsLevel, IsDone, IsSettled, IsSpreading, IsTurn, only, fits, source-reached}

-- a number given to a place that had none, which goes last into the queue
record IsWrite (w : ℕ) (number : ℤ) (numbers : List ℤ) (queue : List ℕ) (numbers' : List ℤ) (queue' : List ℕ) : Type 0 where
  open_before : number_of numbers w ≡ UNREACHED
  same_length : length numbers' ≡ length numbers
  new : number_of numbers' w ≡ number
  others : (v : ℕ) → v ≢ w → number_of numbers' v ≡ number_of numbers v
  fewer : unreached numbers' + 1 ≡ unreached numbers
  longer : length queue' ≡ length queue + 1
  before : (i : ℕ) → i < length queue → slice_index queue' i ≡ slice_index queue i
  last : (i : ℕ) → i ≡ length queue → slice_index queue' i ≡ w

IsWrite-from : (w : ℕ) (number : ℤ) (numbers : List ℤ) (queue : List ℕ) (numbers' : List ℤ) (queue' : List ℕ) → w < length numbers → number ≢ UNREACHED
    → number_of numbers w ≡ UNREACHED → numbers' ≡ slice_set numbers w number → queue' ≡ queue ++ w ∷ [] → IsWrite w number numbers queue numbers' queue'
IsWrite-from w number numbers queue numbers' queue' inside reached open_before e f = record {
  open_before = open_before;
  same_length = ap length e ∙ length-set numbers w number;
  new = ap (λ (l : List ℤ). number_of l w) e ∙ written numbers w number inside;
  others = λ v other. ap (λ (l : List ℤ). number_of l v) e ∙ not_written numbers w v number other;
  fewer = ap (λ (l : List ℤ). unreached l + 1) e ∙ unreached-written numbers w number inside open_before reached;
  longer = ap length f ∙ length_push queue w;
  before = λ i h. ap (λ (l : List ℕ). slice_index l i) f ∙ get_or_append_left queue (w ∷ []) 0 i h;
  last = λ i h. ap (λ (l : List ℕ). slice_index l i) f ∙ get_or_push queue w 0 i (sym h);
}

-- what the places of a turn come to
pub record IsAfter (M : GraphMeaning) (sources : List Source) (next place : ℕ) (level : ℤ) (places : List ℕ) (numbers : List ℤ) (queue : List ℕ) (numbers' : List ℤ) (queue' : List ℕ) : Type 0 where
  pub turn : IsTurn M sources numbers' queue' next place level
  pub kept : (v : ℕ) → IsReached numbers v → number_of numbers' v ≡ number_of numbers v
  pub given : (w : ℕ) → In w places → number_of numbers' w ≤ℤ (level +ℤ pos 1)
  pub work : unreached numbers' + length queue' ≡ unreached numbers + length queue

module _ (M : GraphMeaning) (sources : List Source) (is_graph : IsGraph M) (are_sources : AreSources M sources) (next place : ℕ) (level : ℤ) where
  module _ (numbers : List ℤ) (queue : List ℕ) (turn : IsTurn M sources numbers queue next place level) where
    of_place : IsKnown M sources numbers level place
    of_place = turn.search.known.known place turn.inside turn.reached

    pub below : (level +ℤ pos 1) <ℤ UNREACHED
    below = let h = fits M sources is_graph are_sources numbers level place turn.search.known turn.inside turn.reached in omega (arith, ints, h, turn.level_is)

    target : (w : ℕ) → IsTrue (has_step M.steps place w) → IsTrue (M.is_place w)
    target w leads = is_graph.to_places place w of_place.is_place leads

    module _ (w : ℕ) (leads : IsTrue (has_step M.steps place w)) (numbers' : List ℤ) (queue' : List ℕ) (write : IsWrite w (level +ℤ pos 1) numbers queue numbers' queue') where
      apart : (v : ℕ) → IsReached numbers v → v ≢ w
      apart v reached e = reached (ap (number_of numbers) e ∙ write.open_before)

      kept : (v : ℕ) → IsReached numbers v → number_of numbers' v ≡ number_of numbers v
      kept v reached = write.others v (apart v reached)

      was_reached : (v : ℕ) → v ≢ w → IsReached numbers' v → IsReached numbers v
      was_reached v other reached e = reached (write.others v other ∙ e)

      still : (v : ℕ) → IsReached numbers v → IsReached numbers' v
      still v reached e = reached (sym (kept v reached) ∙ e)

      known-new : IsKnown M sources numbers' level w
      known-new =
          let same = kept place turn.reached in
          let low = of_place.low in
          let bounded = of_place.bounded in
          record {
            is_place = target w leads;
            low = omega (arith, ints, low, turn.level_is, write.new);
            bounded = omega (arith, ints, bounded, turn.level_is, write.new, write.fewer);
            cause = inr (record {
              from = place;
              is_place = of_place.is_place;
              leads = leads;
              less = omega (arith, ints, same, turn.level_is, write.new);
              near = omega (arith, ints, write.new);
            });
          }

      known-old : (v : ℕ) → number_of numbers' v ≡ number_of numbers v → IsKnown M sources numbers level v → IsKnown M sources numbers' level v
      known-old v same k = record {
        is_place = k.is_place;
        low = omega (arith, ints, k.low, same);
        bounded = omega (arith, ints, k.bounded, same, write.fewer);
        cause = cause k.cause;
      }
        where
          cause : IsSourceAt sources v ⊎ IsFrom M numbers level v → IsSourceAt sources v ⊎ IsFrom M numbers' level v
          cause (inl s) = inl s
          cause (inr f) =
              let from_reached = below_reached (number_of numbers f.from) (omega (arith, ints, k.bounded, f.less, is_graph.few)) in
              let from_same = kept f.from from_reached in
              inr (record {
                from = f.from;
                is_place = f.is_place;
                leads = f.leads;
                less = omega (arith, ints, f.less, from_same, same);
                near = omega (arith, ints, f.near, same);
              })

      known : (v : ℕ) → v < M.count → IsReached numbers' v → (v ≡ w) ⊎ (v ≡ w → ⊥) → IsKnown M sources numbers' level v
      known v inside reached (inl e) = subst (λ u. IsKnown M sources numbers' level u) (sym e) known-new
      known v inside reached (inr other) = known-old v (write.others v other) (turn.search.known.known v inside (was_reached v other reached))

      places_of : (i : ℕ) → i < length queue' → (i < length queue) ⊎ (i ≡ length queue)
      places_of i h = go (cases_eq i (length queue))
        where
          go : (i ≡ length queue) ⊎ (i ≡ length queue → ⊥) → (i < length queue) ⊎ (i ≡ length queue)
          go (inl e) = inr e
          go (inr other) = inl (omega (arith, h, write.longer, other))

      at_old : (i : ℕ) → i < length queue → number_of numbers' (slice_index queue' i) ≡ number_of numbers (slice_index queue i)
      at_old i h = ap (number_of numbers') (write.before i h) ∙ kept (slice_index queue i) (turn.search.queued.reached i h)

      at_new : (i : ℕ) → i ≡ length queue → number_of numbers' (slice_index queue' i) ≡ level +ℤ pos 1
      at_new i e = ap (number_of numbers') (write.last i e) ∙ write.new

      queued : IsQueue M numbers' queue' level
      queued = record {
        inside = λ i h. inside i (places_of i h);
        reached = λ i h. reached i (places_of i h);
        near = λ i h. near i (places_of i h);
        in_order = λ i j h k. in_order i j h (places_of j k);
      }
        where
          inside : (i : ℕ) → (i < length queue) ⊎ (i ≡ length queue) → slice_index queue' i < M.count
          inside i (inl h) = subst (λ v. v < M.count) (sym (write.before i h)) (turn.search.queued.inside i h)
          inside i (inr e) = subst (λ v. v < M.count) (sym (write.last i e)) (is_graph.inside w (target w leads))

          reached : (i : ℕ) → (i < length queue) ⊎ (i ≡ length queue) → IsReached numbers' (slice_index queue' i)
          reached i (inl h) = subst (λ v. IsReached numbers' v) (sym (write.before i h)) (still (slice_index queue i) (turn.search.queued.reached i h))
          reached i (inr e) = below_reached (number_of numbers' (slice_index queue' i)) (let new = at_new i e in omega (arith, ints, new, below))

          near : (i : ℕ) → (i < length queue) ⊎ (i ≡ length queue) → number_of numbers' (slice_index queue' i) ≤ℤ (level +ℤ pos 1)
          near i (inl h) = let old = at_old i h in let k = turn.search.queued.near i h in omega (arith, ints, old, k)
          near i (inr e) = let new = at_new i e in omega (arith, ints, new)

          in_order : (i j : ℕ) → i ≤ j → (j < length queue) ⊎ (j ≡ length queue) → number_of numbers' (slice_index queue' i) ≤ℤ number_of numbers' (slice_index queue' j)
          in_order i j h (inl k) =
              let first = at_old i (omega (arith, h, k)) in
              let second = at_old j k in
              let order = turn.search.queued.in_order i j h k in
              omega (arith, ints, first, second, order)
          in_order i j h (inr e) =
              let first = near i (places_of i (omega (arith, h, e, write.longer))) in
              let second = at_new j e in
              omega (arith, ints, first, second)

      levelled : IsLevel sources numbers' queue' next level
      levelled = record {
        next_within = turn.search.levelled.next_within;
        of_queue = λ i h. of_queue i (places_of i h);
        of_sources = turn.search.levelled.of_sources;
      }
        where
          of_queue : (i : ℕ) → (i < length queue) ⊎ (i ≡ length queue) → level ≤ℤ number_of numbers' (slice_index queue' i)
          of_queue i (inl h) = let old = at_old i h in let k = turn.search.levelled.of_queue i h in omega (arith, ints, old, k)
          of_queue i (inr e) = let new = at_new i e in omega (arith, ints, new)

      still_done : (v : ℕ) → v < M.count → IsReached numbers v → IsDone M numbers v → IsDone M numbers' v
      still_done v inside reached done u step = go (cases_eq u w)
        where
          same : number_of numbers' v ≡ number_of numbers v
          same = kept v reached

          less : number_of numbers u ≤ℤ (number_of numbers v +ℤ pos 1)
          less = done u step

          go : (u ≡ w) ⊎ (u ≡ w → ⊥) → number_of numbers' u ≤ℤ (number_of numbers' v +ℤ pos 1)
          go (inl e) =
              let high = fits M sources is_graph are_sources numbers level v turn.search.known inside reached in
              let unset : number_of numbers u ≡ UNREACHED = ap (number_of numbers) e ∙ write.open_before in
              absurd (omega (arith, ints, high, less, unset))
          go (inr other) = let other_same = write.others u other in omega (arith, ints, same, less, other_same)

      settled : (v : ℕ) → v < M.count → IsReached numbers' v → (v ≡ w) ⊎ (v ≡ w → ⊥) → only place v ⊎ IsSettled M sources numbers' queue' next v
      settled v inside reached (inl e) =
          inr (inl (record { i = length queue; within = omega (arith, write.longer); is = write.last (length queue) refl ∙ sym e }))
      settled v inside reached (inr other) = go (turn.search.settled v inside (was_reached v other reached))
        where
          go : only place v ⊎ IsSettled M sources numbers queue next v → only place v ⊎ IsSettled M sources numbers' queue' next v
          go (inl e) = inl e
          go (inr (inl q)) = inr (inl (record { i = q.i; within = omega (arith, q.within, write.longer); is = write.before q.i q.within ∙ q.is }))
          go (inr (inr (inl s))) = inr (inr (inl s))
          go (inr (inr (inr d))) = inr (inr (inr (still_done v inside (was_reached v other reached) d)))

      turn-written : IsTurn M sources numbers' queue' next place level
      turn-written = record {
        search = record {
          known = record {
            count = write.same_length ∙ turn.search.known.count;
            own = λ i s e. kept s.place (source-reached M sources is_graph are_sources numbers level i s turn.search.known e) ∙ turn.search.known.own i s e;
            known = λ v inside reached. known v inside reached (cases_eq v w);
          };
          queued = queued;
          levelled = levelled;
          settled = λ v inside reached. settled v inside reached (cases_eq v w);
        };
        level_is = kept place turn.reached ∙ turn.level_is;
        inside = turn.inside;
        reached = still place turn.reached;
      }

  after-none : (numbers : List ℤ) (queue : List ℕ) (numbers' : List ℤ) (queue' : List ℕ) → IsTurn M sources numbers queue next place level
      → numbers' ≡ numbers → queue' ≡ queue → IsAfter M sources next place level [] numbers queue numbers' queue'
  after-none numbers queue numbers' queue' turn e f =
      subst (λ (l : List ℤ). IsAfter M sources next place level [] numbers queue l queue') (sym e)
      (subst (λ (q : List ℕ). IsAfter M sources next place level [] numbers queue numbers q) (sym f)
      (record { turn = turn; kept = λ v reached. refl; given = λ w i. absurd i; work = refl }))

  -- one place is given the number
  after-one : (numbers : List ℤ) (queue : List ℕ) (numbers' : List ℤ) (queue' : List ℕ) (w : ℕ) → IsTurn M sources numbers queue next place level
      → IsTrue (has_step M.steps place w) → IsGiven (level +ℤ pos 1) w numbers queue numbers' queue' → IsAfter M sources next place level (w ∷ []) numbers queue numbers' queue'
  after-one numbers queue numbers' queue' w turn leads (inl (low, e, f)) =
      let same = after-none numbers queue numbers' queue' turn e f in
      record {
        turn = same.turn;
        kept = same.kept;
        given = λ v i. given v i;
        work = same.work;
      }
    where
      given : (v : ℕ) → (v ≡ w) ⊎ ⊥ → number_of numbers' v ≤ℤ (level +ℤ pos 1)
      given v (inl same) =
          let number : number_of numbers' v ≡ number_of numbers w = ap (λ (l : List ℤ). number_of l v) e ∙ ap (number_of numbers) same in
          omega (arith, ints, number, low)
      given v (inr never) = absurd never
  after-one numbers queue numbers' queue' w turn leads (inr (unset, e, f)) = record {
    turn = turn-written numbers queue turn w leads numbers' queue' write;
    kept = kept numbers queue turn w leads numbers' queue' write;
    given = λ v i. given v i;
    work = omega (arith, write.fewer, write.longer);
  }
    where
      write : IsWrite w (level +ℤ pos 1) numbers queue numbers' queue'
      write =
          IsWrite-from w (level +ℤ pos 1) numbers queue numbers' queue'
          (subst (λ n. w < n) (sym turn.search.known.count) (is_graph.inside w (target numbers queue turn w leads)))
          (below_reached (level +ℤ pos 1) (below numbers queue turn)) unset e f

      given : (v : ℕ) → (v ≡ w) ⊎ ⊥ → number_of numbers' v ≤ℤ (level +ℤ pos 1)
      given v (inl same) =
          let number : number_of numbers' v ≡ level +ℤ pos 1 = ap (number_of numbers') same ∙ write.new in
          omega (arith, ints, number)
      given v (inr never) = absurd never

  -- all places of a list, to each of which a step leads, are given the number
  pub after : (places : List ℕ) (numbers : List ℤ) (queue : List ℕ) (numbers' : List ℤ) (queue' : List ℕ) → IsTurn M sources numbers queue next place level
      → ((w : ℕ) → In w places → IsTrue (has_step M.steps place w)) → AreGiven (level +ℤ pos 1) places numbers queue numbers' queue'
      → IsAfter M sources next place level places numbers queue numbers' queue'
  after [] numbers queue numbers' queue' turn lead (e, f) = after-none numbers queue numbers' queue' turn e f
  after (w ∷ places) numbers queue numbers' queue' turn lead (between, waiting, first, more) =
      let one = after-one numbers queue between waiting w turn (lead w (inl refl)) first in
      let rest = after places between waiting numbers' queue' one.turn (λ v i. lead v (inr i)) more in
      join between waiting one rest
    where
      join : (between : List ℤ) (waiting : List ℕ) → IsAfter M sources next place level (w ∷ []) numbers queue between waiting
          → IsAfter M sources next place level places between waiting numbers' queue' → IsAfter M sources next place level (w ∷ places) numbers queue numbers' queue'
      join between waiting one rest = record {
        turn = rest.turn;
        kept = λ v reached. rest.kept v (λ e. reached (sym (one.kept v reached) ∙ e)) ∙ one.kept v reached;
        given = λ v i. given v i;
        work = rest.work ∙ one.work;
      }
        where
          given : (v : ℕ) → (v ≡ w) ⊎ In v places → number_of numbers' v ≤ℤ (level +ℤ pos 1)
          given v (inl e) =
              let low = one.given v (inl e) in
              let same = rest.kept v (below_reached (number_of between v) (let high = below numbers queue turn in omega (arith, ints, low, high))) in
              omega (arith, ints, low, same)
          given v (inr i) = rest.given v i

  -- a turn ends
  pub turn-end : (numbers : List ℤ) (queue : List ℕ) → IsTurn M sources numbers queue next place level
      → ((w : ℕ) → In w (M.steps place) → number_of numbers w ≤ℤ (level +ℤ pos 1)) → IsSpreading M sources numbers queue next
  turn-end numbers queue turn given = record {
    level = level;
    search = record {
      known = turn.search.known;
      queued = turn.search.queued;
      levelled = turn.search.levelled;
      settled = λ v inside reached. settled v (turn.search.settled v inside reached);
    };
  }
    where
      settled : (v : ℕ) → only place v ⊎ IsSettled M sources numbers queue next v → ⊥ ⊎ IsSettled M sources numbers queue next v
      settled v (inl e) = inr (inr (inr (λ w step.
          let low = given w (subst (λ u. In w (M.steps u)) e (has_step-In M.steps v w step)) in
          let number : number_of numbers v ≡ level = ap (number_of numbers) e ∙ turn.level_is in
          omega (arith, ints, low, number))))
      settled v (inr s) = inr s

-- what is left to do after a turn
pub smaller : (sources : List Source) (others numbers : List ℤ) (queue waiting : List ℕ) (numbers' : List ℤ) (queue' : List ℕ) (next next' place : ℕ)
    → IsTaken sources others queue next waiting next' (Some place) → unreached numbers' + length queue' ≡ unreached numbers + length waiting → next' ≤ length sources
    → unreached numbers' + (length sources - next') + length queue' < unreached numbers + (length sources - next) + length queue
smaller sources others numbers queue waiting numbers' queue' next next' place (inl t) work h = omega (arith, ap length t.queue_is, t.next_is, work, h)
smaller sources others numbers queue waiting numbers' queue' next next' place (inr t) work h =
    let within = slice_get_within sources next t.source t.is_source in omega (arith, within, ap length t.queue_is, t.next_is, work, h)
