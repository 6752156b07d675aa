-- A flood of a region, step by step.
use Rattle.std.proofs.Common.{◌≡◌, ℕ, zero, suc, ◌+◌, ◌-◌, ◌*◌, ◌<◌, ◌≤◌, ◌⊎◌, inl, inr, Bool, true, false, not, ◌&&◌, ◌||◌, cond, List, [], ◌∷◌, ◌++◌, length, take, drop, refl, sym, ◌∙◌, ap, subst, arith, get_or, replicate, Option, Some, None}
use Rattle.std.specs.Prelude.{slice_set, slice_get, count_by, find, MatchOption}
use Rattle.std.specs.List.{list_any}
use Rattle.std.proofs.lemmas.Bool.{and_parts, and_from, or_cases, or_left, or_right, or_parts, both_ways, cases_eq, cases_Bool, and_right, or_from, false_from_ne_true, not-true, not-false}
use Rattle.std.proofs.lemmas.List.{get_or-set_same, get_or-set_other, take_more, drop_more, length-set, length-append, length-replicate, take_all}
use Rattle.std.proofs.lemmas.List.Folds.{list_any-append}
use Rattle.std.proofs.lemmas.List.Sums.{sum_by-set}
use Rattle.tl_definitions.specs.declared.Cell.{Cell}
use Rattle.tl_definitions.specs.declared.Kind.{Kind}
use Rattle.tl_definitions.specs.declared.Kind.TheVariants.{Square, Triangle}
use Rattle.tl_definitions.specs.Lattice.{cell_eq, cell_lt, is_cell, neighbours, are_neighbours}
use Rattle.tl_definitions.specs.Region.{Region, has}
use Rattle.tl_definitions.specs.Accepted.{AreJoined, InOnePart, IsFirstParted}
use Rattle.tl_lists.specs.Lists.{linked}
use Rattle.tl_definitions.proofs.Regions.{has-within, same_place}
use Rattle.tl_definitions.proofs.Cells.{cell_eq-same, cell_eq-of_parts, In-any, cell_lt-irreflexive, cell_lt-transitive, In-has}
use Rattle.tl_lists.proofs.Tests.{some_same}
use Rattle.tl_lists.proofs.Members.{In}
use Rattle.tl_lists.proofs.Orders.{later, linked-tail}
use Rattle.tl_definitions.proofs.Partners.{cells-linked}
use Rattle.tl_definitions.proofs.Joined.{joined_here, joined_before, joined_back, closed_has, in_one_part}
use Rattle.tl_definitions.proofs.Neighbours.{neighbours-back}
use Rattle.tl_lists.proofs.Searches.{find-none}
use Rattle.tl_lattice.specs.Places.{padded}
use Rattle.tl_grid.specs.declared.parts.Flood.{Flood}
use Rattle.tl_grid.specs.Grid.{flag_at, IsGrid}
use Rattle.tl_grid.specs.Flood.{HasFlags, is_reached, is_waiting, work, Reaches, IsFlood, AreFlagsOfPart}
use Rattle.tl_grid.proofs.GridLemmas.{place-within, or_false}

-- ---- what is reached

-- where nothing is found that is new, nothing changes
pub reaches_known : (R : Region) (found : List (Option Cell)) (flood : Flood)
    → ((a : Cell) → list_any (is_cell a) found ≡ true → has R a ≡ true → is_reached R flood a ≡ true) → Reaches R found flood flood
reaches_known R found flood known = record {
  size = refl;
  work = refl;
  reached = λ a. same (is_reached R flood a) (has R a) (list_any (is_cell a) found) (known a);
  waiting = λ a. none (is_waiting flood a) (is_reached R flood a);
}
  where
    same : (r h f : Bool) → (f ≡ true → h ≡ true → r ≡ true) → r ≡ (r || (h && f))
    same true h f k = refl
    same false true true k = k refl refl
    same false true false k = refl
    same false false f k = refl

    none : (w r : Bool) → w ≡ (w || (r && not r))
    none true r = refl
    none false true = refl
    none false false = refl

pub reaches_nothing : (R : Region) (flood : Flood) → Reaches R [] flood flood
reaches_nothing R flood = reaches_known R [] flood (λ a e h. cc e)

pub reaches_none : (R : Region) (flood : Flood) → Reaches R (None ∷ []) flood flood
reaches_none R flood = reaches_known R (None ∷ []) flood (λ a e h. cc e)

pub reaches_outside : (R : Region) (b : Cell) (flood : Flood) → has R b ≡ false → Reaches R (Some b ∷ []) flood flood
reaches_outside R b flood out =
    reaches_known R (Some b ∷ []) flood (λ a e h. absurd (both_ways (has R b) out (ap (has R) (sym (cell_eq-same a b (sym (or_false (cell_eq a b)) ∙ e))) ∙ h)))

pub reaches_again : (R : Region) (b : Cell) (flood : Flood) → flag_at R.columns flood.reached.items b ≡ true → Reaches R (Some b ∷ []) flood flood
reaches_again R b flood set =
    reaches_known R (Some b ∷ []) flood
    (λ a e h. and_from _ _ h (ap (flag_at R.columns flood.reached.items) (cell_eq-same a b (sym (or_false (cell_eq a b)) ∙ e)) ∙ set))

-- a cell more
module _ (R : Region) (b : Cell) (old new : Flood) (is_grid : IsGrid R) (inside : has R b ≡ true) (size : HasFlags R old.reached.items)
    (unset : flag_at R.columns old.reached.items b ≡ false) (flags : new.reached.items ≡ slice_set old.reached.items (b.r * R.columns + b.c) true)
    (waiting : new.waiting.items ≡ old.waiting.items ++ (b ∷ [])) where
  new-room : b.r * R.columns + b.c < length old.reached.items
  new-room = omega (arith, place-within R b is_grid inside, size)

  new-work : work new ≡ work old
  new-work =
      let set : count_by not (slice_set old.reached.items (b.r * R.columns + b.c) true) + cond (not (get_or old.reached.items (b.r * R.columns + b.c) false)) 1 0 ≡ count_by not old.reached.items + 0 =
      sum_by-set (λ x. cond (not x) 1 0) old.reached.items (b.r * R.columns + b.c) true false new-room in
      let was : ◌≡◌ {A = ℕ} (cond (not (get_or old.reached.items (b.r * R.columns + b.c) false)) 1 0) 1 = ap (λ (x : Bool). cond (not x) 1 0) unset in
      let more : length new.waiting.items ≡ length old.waiting.items + 1 = ap length waiting ∙ length-append old.waiting.items (b ∷ []) in
      omega (arith, set, was, more, ap (λ (l : List Bool). count_by not l) flags)

  -- its flag is set
  new-flag : (a : Cell) → has R a ≡ true → flag_at R.columns new.reached.items a ≡ (flag_at R.columns old.reached.items a || cell_eq a b)
  new-flag a h =
      ap (λ (l : List Bool). flag_at R.columns l a) flags
      ∙ go (has-within R a is_grid.placed h) (has-within R b is_grid.placed inside) (cases_eq (a.r * R.columns + a.c) (b.r * R.columns + b.c))
    where
      go : (a.r < R.rows) × (a.c < R.columns) → (b.r < R.rows) × (b.c < R.columns) → (a.r * R.columns + a.c ≡ b.r * R.columns + b.c) ⊎ (a.r * R.columns + a.c ≡ b.r * R.columns + b.c → ⊥)
          → flag_at R.columns (slice_set old.reached.items (b.r * R.columns + b.c) true) a ≡ (flag_at R.columns old.reached.items a || cell_eq a b)
      go p q (inl e) =
          let at : (a.r ≡ b.r) × (a.c ≡ b.c) = same_place a b R.columns p.1 q.1 e in
          ap (λ (n : ℕ). get_or (slice_set old.reached.items (b.r * R.columns + b.c) true) n false) e
          ∙ get_or-set_same old.reached.items (b.r * R.columns + b.c) true false new-room
          ∙ sym (or_right _ _ (cell_eq-of_parts a b at.0 at.1))
      go p q (inr ne) =
          let differ : cell_eq a b ≡ false = false_from_ne_true _ (λ t. ne (place_of (cell_eq-same a b t))) in
          get_or-set_other old.reached.items (b.r * R.columns + b.c) (a.r * R.columns + a.c) true false ne
          ∙ sym (ap (λ (t : Bool). flag_at R.columns old.reached.items a || t) differ ∙ or_false _)
        where
          place_of : a ≡ b → a.r * R.columns + a.c ≡ b.r * R.columns + b.c
          place_of e = ap (λ (d : Cell). d.r * R.columns + d.c) e

  new-reached : (a : Cell) → is_reached R new a ≡ (is_reached R old a || (has R a && (cell_eq a b || false)))
  new-reached a = go (has R a) (flag_at R.columns new.reached.items a) (flag_at R.columns old.reached.items a) (cell_eq a b) (new-flag a)
    where
      go : (h n o e : Bool) → (h ≡ true → n ≡ (o || e)) → (h && n) ≡ ((h && o) || (h && (e || false)))
      go false n o e f = refl
      go true n o e f = f refl ∙ ap (λ (t : Bool). o || t) (sym (or_false e))

  new-waiting : (a : Cell) → is_waiting new a ≡ (is_waiting old a || (is_reached R new a && not (is_reached R old a)))
  new-waiting a =
      ap (λ (l : List Cell). list_any (cell_eq a) l) waiting ∙ list_any-append (cell_eq a) old.waiting.items (b ∷ [])
      ∙ ap (λ (t : Bool). is_waiting old a || t)
      (or_false (cell_eq a b) ∙ go (cell_eq a b) (is_reached R old a) (has R a) fresh known ∙ ap (λ (t : Bool). t && not (is_reached R old a)) (sym (new-reached a)))
    where
      fresh : cell_eq a b ≡ true → is_reached R old a ≡ false
      fresh e = and_right (has R a) _ (ap (flag_at R.columns old.reached.items) (cell_eq-same a b e) ∙ unset)

      known : cell_eq a b ≡ true → has R a ≡ true
      known e = ap (has R) (cell_eq-same a b e) ∙ inside

      go : (e r h : Bool) → (e ≡ true → r ≡ false) → (e ≡ true → h ≡ true) → e ≡ ((r || (h && (e || false))) && not r)
      go true true h f g = cc (f refl)
      go true false true f g = refl
      go true false false f g = cc (g refl)
      go false true h f g = refl
      go false false true f g = refl
      go false false false f g = refl

  pub reaches_new : Reaches R (Some b ∷ []) old new
  reaches_new = record {
    size = ap length flags ∙ length-set old.reached.items (b.r * R.columns + b.c) true;
    work = new-work;
    reached = new-reached;
    waiting = new-waiting;
  }

-- ---- one after another

reaches_then : (R : Region) (xs ys : List (Option Cell)) (old mid new : Flood) → Reaches R xs old mid → Reaches R ys mid new → Reaches R (xs ++ ys) old new
reaches_then R xs ys old mid new f g = record {
  size = g.size ∙ f.size;
  work = g.work ∙ f.work;
  reached = reached;
  waiting = λ a.
      let h = has R a in
      let r = is_reached R old a in
      g.waiting a ∙ ap (λ (t : Bool). t || (is_reached R new a && not (is_reached R mid a))) (f.waiting a)
      ∙ join (is_waiting old a) (is_reached R old a) (has R a && list_any (is_cell a) xs) (has R a && list_any (is_cell a) ys) (is_reached R mid a) (is_reached R new a) (f.reached a) (g.reached a);
}
  where
    both : (r h f g : Bool) → ((r || (h && f)) || (h && g)) ≡ (r || (h && (f || g)))
    both true h f g = refl
    both false true f g = refl
    both false false f g = refl

    reached : (a : Cell) → is_reached R new a ≡ (is_reached R old a || (has R a && list_any (is_cell a) (xs ++ ys)))
    reached a =
        g.reached a ∙ ap (λ (t : Bool). t || (has R a && list_any (is_cell a) ys)) (f.reached a)
        ∙ both (is_reached R old a) (has R a) (list_any (is_cell a) xs) (list_any (is_cell a) ys)
        ∙ ap (λ (t : Bool). is_reached R old a || (has R a && t)) (sym (list_any-append (is_cell a) xs ys))

    join : (w r f g m n : Bool) → m ≡ (r || f) → n ≡ (m || g) → ((w || (m && not r)) || (n && not m)) ≡ (w || (n && not r))
    join true r f g m n p q = refl
    join false true f g true true p q = refl
    join false true f g true false p q = refl
    join false true f g false n p q = cc p
    join false false f g true true p q = refl
    join false false f g true false p q = cc q
    join false false f g false true p q = refl
    join false false f g false false p q = refl

pub reaches_more : (R : Region) (found : List (Option Cell)) (i : ℕ) (o d : Option Cell) (old mid new : Flood) → i < length found → o ≡ get_or found i d
    → Reaches R (take i found) old mid → Reaches R (o ∷ []) mid new → Reaches R (take (i + 1) found) old new
reaches_more R found i o d old mid new h e f g =
    subst (λ l. Reaches R l old new) (ap (λ (x : Option Cell). take i found ++ (x ∷ [])) e ∙ sym (take_more found i d h)) (reaches_then R (take i found) (o ∷ []) old mid new f g)

-- places without a cell don't matter
pub reaches_padded : (R : Region) (found : List (Option Cell)) (width : ℕ) (old new : Flood) → Reaches R (padded width found) old new → Reaches R found old new
reaches_padded R found width old new f = record {
  size = f.size;
  work = f.work;
  reached = λ a. f.reached a ∙ ap (λ (t : Bool). is_reached R old a || (has R a && t))
      (list_any-append (is_cell a) found (replicate (width - length found) None) ∙ ap (λ (t : Bool). list_any (is_cell a) found || t) (blank a (width - length found)) ∙ or_false _);
  waiting = f.waiting;
}
  where
    blank : (a : Cell) (n : ℕ) → list_any (is_cell a) (replicate n None) ≡ false
    blank a zero = refl
    blank a (suc n) = blank a n

pub length-padded : (k : Kind) (a : Cell) → length (padded 4 (neighbours k a)) ≡ 4
length-padded Square a = refl
length-padded Triangle a = refl

pub reaches_all : (R : Region) (a : Cell) (found : List (Option Cell)) (i : ℕ) (old new : Flood) → found ≡ padded 4 (neighbours R.kind a) → length found ≤ i
    → Reaches R (take i found) old new → Reaches R (neighbours R.kind a) old new
reaches_all R a found i old new e h f =
    reaches_padded R (neighbours R.kind a) 4 old new (subst (λ l. Reaches R l old new) (take_all i found h ∙ e) f)

-- ---- from the first cell on

-- no flag is set
pub none_set : (R : Region) (n : ℕ) (flags : List Bool) → n ≡ R.rows * R.columns → flags ≡ replicate n false
    → HasFlags R flags × ((a : Cell) → (has R a && flag_at R.columns flags a) ≡ false)
none_set R n flags e f = (
  ap length f ∙ length-replicate n false ∙ e,
  λ a. and_right (has R a) _ (ap (λ (l : List Bool). flag_at R.columns l a) f ∙ at n (a.r * R.columns + a.c)),
)
  where
    at : (n i : ℕ) → get_or (replicate n false) i false ≡ false
    at zero i = refl
    at (suc n) zero = refl
    at (suc n) (suc i) = at n i

pub first-has : (R : Region) (start : Cell) → slice_get R.cells 0 ≡ Some start → has R start ≡ true
first-has R start e = go R.cells e
  where
    go : (cells : List Cell) → slice_get cells 0 ≡ Some start → list_any (cell_eq start) cells ≡ true
    go [] e = cc e
    go (x ∷ xs) e = or_left _ _ (cell_eq-of_parts start x (ap (λ (c : Cell). c.r) (sym (some_same _ _ e))) (ap (λ (c : Cell). c.c) (sym (some_same _ _ e))))

pub flood_start : (R : Region) (start : Cell) (old new : Flood) → has R start ≡ true → HasFlags R old.reached.items → ((a : Cell) → is_reached R old a ≡ false)
    → old.waiting.items ≡ [] → Reaches R (Some start ∷ []) old new → IsFlood R start new
flood_start R start old new inside size none empty f = record {
  size = f.size ∙ size;
  begun = f.reached start ∙ or_right _ _ (and_from _ _ inside (or_left _ _ (cell_eq-of_parts start start refl refl)));
  joined = λ a e. subst (λ x. AreJoined R x start) (sym (same a e)) (joined_here R start inside);
  waiting = λ a e. (and_parts _ _ (sym (waits a) ∙ e)).0;
  spread = λ a b e w h n. absurd (both_ways _ w (waits a ∙ and_from _ _ e (ap not (none a))));
}
  where
    waits : (a : Cell) → is_waiting new a ≡ (is_reached R new a && not (is_reached R old a))
    waits a = f.waiting a ∙ ap (λ (l : List Cell). list_any (cell_eq a) l || (is_reached R new a && not (is_reached R old a))) empty

    same : (a : Cell) → is_reached R new a ≡ true → a ≡ start
    same a e =
        let p : (has R a && (cell_eq a start || false)) ≡ true = sym (f.reached a ∙ ap (λ (t : Bool). t || (has R a && (cell_eq a start || false))) (none a)) ∙ e in
        cell_eq-same a start (sym (or_false (cell_eq a start)) ∙ (and_parts (has R a) (cell_eq a start || false) p).1)

-- a cell that waited, and its neighbours
pub flood_more : (R : Region) (start b : Cell) (old mid new : Flood) → IsFlood R start old → mid.reached.items ≡ old.reached.items → old.waiting.items ≡ mid.waiting.items ++ (b ∷ [])
    → Reaches R (neighbours R.kind b) mid new → IsFlood R start new
flood_more R start b old mid new flood flags popped f = record {
  size = f.size ∙ ap length flags ∙ flood.size;
  begun = still start flood.begun;
  joined = λ a e. joined a e (or_cases _ _ (sym (reached a) ∙ e));
  waiting = λ a e. waiting a (or_cases _ _ (sym (f.waiting a) ∙ e));
  spread = spread;
}
  where
    was : (a : Cell) → is_reached R mid a ≡ is_reached R old a
    was a = ap (λ (l : List Bool). has R a && flag_at R.columns l a) flags

    waited : (a : Cell) → is_waiting old a ≡ (is_waiting mid a || (cell_eq a b || false))
    waited a = ap (λ (l : List Cell). list_any (cell_eq a) l) popped ∙ list_any-append (cell_eq a) mid.waiting.items (b ∷ [])

    reached : (a : Cell) → is_reached R new a ≡ (is_reached R old a || (has R a && are_neighbours R.kind b a))
    reached a = f.reached a ∙ ap (λ (t : Bool). t || (has R a && are_neighbours R.kind b a)) (was a)

    still : (a : Cell) → is_reached R old a ≡ true → is_reached R new a ≡ true
    still a e = reached a ∙ or_left _ _ e

    begun_here : is_reached R old b ≡ true
    begun_here = flood.waiting b (waited b ∙ or_right _ _ (or_left _ _ (cell_eq-of_parts b b refl refl)))

    joined : (a : Cell) → is_reached R new a ≡ true → (is_reached R old a ≡ true) ⊎ ((has R a && are_neighbours R.kind b a) ≡ true) → AreJoined R a start
    joined a e (inl h) = flood.joined a h
    joined a e (inr h) =
        let p : (has R a ≡ true) × (are_neighbours R.kind b a ≡ true) = and_parts _ _ h in
        joined_before R a start b p.0 (neighbours-back R.kind b a p.1) (flood.joined b begun_here)

    waiting : (a : Cell) → (is_waiting mid a ≡ true) ⊎ ((is_reached R new a && not (is_reached R mid a)) ≡ true) → is_reached R new a ≡ true
    waiting a (inl h) = still a (flood.waiting a (waited a ∙ or_left _ _ h))
    waiting a (inr h) = (and_parts _ _ h).0

    spread : (a d : Cell) → is_reached R new a ≡ true → is_waiting new a ≡ false → has R d ≡ true → are_neighbours R.kind a d ≡ true → is_reached R new d ≡ true
    spread a d e w h n =
        let p : (is_waiting mid a ≡ false) × ((is_reached R new a && not (is_reached R mid a)) ≡ false) = or_parts _ _ (sym (f.waiting a) ∙ w) in
        go (cases_Bool (is_reached R mid a)) p.0 p.1 (cases_Bool (cell_eq a b))
      where
        go : (is_reached R mid a ≡ true) ⊎ (is_reached R mid a ≡ false) → is_waiting mid a ≡ false → (is_reached R new a && not (is_reached R mid a)) ≡ false
            → (cell_eq a b ≡ true) ⊎ (cell_eq a b ≡ false) → is_reached R new d ≡ true
        go (inr k) u v c = absurd (both_ways _ v (and_from _ _ e (ap not k)))
        go (inl k) u v (inl same) =
            reached d ∙ or_right _ _ (and_from _ _ h (subst (λ x. are_neighbours R.kind x d ≡ true) (cell_eq-same a b same) n))
        go (inl k) u v (inr other) =
            still d (flood.spread a d (sym (was a) ∙ k) (waited a ∙ or_from _ _ u (or_from _ _ other refl)) h n)

-- ---- the whole part

pub flood_over : (R : Region) (start : Cell) (flood : Flood) → slice_get R.cells 0 ≡ Some start → flood.waiting.items ≡ [] → IsFlood R start flood → AreFlagsOfPart R flood.reached.items
flood_over R start flood first over f = record {
  size = f.size;
  start = start;
  is_start = first;
  joined = λ a h e. joined_back R a start h (f.joined a (and_from _ _ h e));
  whole = λ a h j. (and_parts _ _ (closed_has R (is_reached R flood) start a (λ x y e k n. f.spread x y e (nothing x) k n) f.begun j)).1;
}
  where
    nothing : (x : Cell) → is_waiting flood x ≡ false
    nothing x = ap (λ (l : List Cell). list_any (cell_eq x) l) over

-- a cell that waits is one of the region
pub flood-has : (R : Region) (start b : Cell) (flood : Flood) (rest : List Cell) → IsFlood R start flood → flood.waiting.items ≡ rest ++ (b ∷ []) → has R b ≡ true
flood-has R start b flood rest f e =
    (and_parts _ _ (f.waiting b (ap (λ (l : List Cell). list_any (cell_eq b) l) e ∙ list_any-append (cell_eq b) rest (b ∷ []) ∙ or_right _ _ (or_left _ _ (cell_eq-of_parts b b refl refl))))).0

-- ---- the first cell without a flag

pub find-drop : (p : Cell → Bool) (cells : List Cell) (i : ℕ) (d : Cell) → i < length cells → p (get_or cells i d) ≡ false
    → find p (drop i cells) ≡ find p cells → find p (drop (i + 1) cells) ≡ find p cells
find-drop p cells i d h e f =
    ap (λ (t : Bool). cond t (Some (get_or cells i d)) (find p (drop (i + 1) cells))) (sym e) ∙ sym (ap (find p) (drop_more cells i d h)) ∙ f

pub find-here : (p : Cell → Bool) (cells : List Cell) (i : ℕ) (d : Cell) → i < length cells → p (get_or cells i d) ≡ true
    → find p (drop i cells) ≡ find p cells → Some (get_or cells i d) ≡ find p cells
find-here p cells i d h e f =
    ap (λ (t : Bool). cond t (Some (get_or cells i d)) (find p (drop (i + 1) cells))) (sym e) ∙ sym (ap (find p) (drop_more cells i d h)) ∙ f

-- none, or one before which there is none
pub find-some : (p : Cell → Bool) (cells : List Cell) (a : Cell) → linked cell_lt cells ≡ true → find p cells ≡ Some a
    → In a cells × (p a ≡ true) × ((b : Cell) → In b cells → cell_lt b a ≡ true → p b ≡ false)
find-some p [] a l e = cc e
find-some p (x ∷ xs) a l e = go (p x) refl e (λ f. find-some p xs a (linked-tail cell_lt cell_lt-irreflexive cell_lt-transitive x xs l) f)
  where
    above : (b : Cell) → In b xs → cell_lt x b ≡ true
    above b i = later cell_lt cell_lt-irreflexive cell_lt-transitive x xs b l i

    go : (t : Bool) → p x ≡ t → cond t (Some x) (find p xs) ≡ Some a
        → (find p xs ≡ Some a → In a xs × (p a ≡ true) × ((b : Cell) → In b xs → cell_lt b a ≡ true → p b ≡ false))
        → In a (x ∷ xs) × (p a ≡ true) × ((b : Cell) → In b (x ∷ xs) → cell_lt b a ≡ true → p b ≡ false)
    go true k e ih =
        let same : x ≡ a = some_same _ _ e in
        (inl (sym same), ap p (sym same) ∙ k, λ b i lt. absurd (not_before same b i lt))
      where
        not_before : x ≡ a → (b : Cell) → (b ≡ x) ⊎ In b xs → cell_lt b a ≡ true → ⊥
        not_before same b (inl e) lt = cell_lt-irreflexive a (subst (λ y. cell_lt y a ≡ true) (e ∙ same) lt)
        not_before same b (inr i) lt = cell_lt-irreflexive a (subst (λ y. cell_lt y a ≡ true) same (cell_lt-transitive x b a (above b i) lt))
    go false k e ih =
        let q = ih e in
        (inr q.0, q.1, λ b i lt. before q.2 b i lt)
      where
        before : ((b : Cell) → In b xs → cell_lt b a ≡ true → p b ≡ false) → (b : Cell) → (b ≡ x) ⊎ In b xs → cell_lt b a ≡ true → p b ≡ false
        before f b (inl same) lt = ap p same ∙ k
        before f b (inr i) lt = f b i lt

-- ---- what that cell tells

module _ (R : Region) (is_grid : IsGrid R) (flags : List Bool) (part : AreFlagsOfPart R flags) where
  flag-joined : (a : Cell) → has R a ≡ true → not (flag_at R.columns flags a) ≡ false → AreJoined R part.start a
  flag-joined a h e = part.joined a h (not-false _ e)

  parted-none : find (λ a. not (flag_at R.columns flags a)) R.cells ≡ None → InOnePart R
  parted-none e =
      in_one_part R part.start inside
      (λ a h. joined_back R part.start a inside (flag-joined a h (false_from_ne_true _ (find-none (λ a. not (flag_at R.columns flags a)) R.cells e a (In-any a R.cells h)))))
    where
      inside : has R part.start ≡ true
      inside = first-has R part.start part.is_start

  parted-some : (a : Cell) → find (λ a. not (flag_at R.columns flags a)) R.cells ≡ Some a → IsFirstParted R a
  parted-some a e =
      let q : In a R.cells × (not (flag_at R.columns flags a) ≡ true) × ((b : Cell) → In b R.cells → cell_lt b a ≡ true → not (flag_at R.columns flags b) ≡ false) =
      find-some (λ a. not (flag_at R.columns flags a)) R.cells a (cells-linked R is_grid.placed) e in
      record {
        start = part.start;
        is_start = part.is_start;
        inside = In-has a R.cells q.0;
        parted = λ j. both_ways _ (not-true _ q.1) (part.whole a (In-has a R.cells q.0) j);
        earlier = λ b h lt. flag-joined b h (q.2 b (In-any b R.cells h) lt);
      }

  pub parted-first : (o : Option Cell) → o ≡ find (λ a. not (flag_at R.columns flags a)) R.cells → MatchOption o (InOnePart R) (IsFirstParted R)
  parted-first None e = parted-none (sym e)
  parted-first (Some a) e = parted-some a (sym e)
