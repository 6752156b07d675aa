-- A survey, place by place, and what it tells of all places.
use Rattle.std.proofs.Common.{◌≡◌, ℕ, ◌+◌, ◌*◌, ◌<◌, ◌≤◌, Bool, true, false, not, ◌&&◌, List, [], ◌∷◌, ◌++◌, map, length, cond, Option, Some, None, refl, sym, ◌∙◌, ap, subst, arith, get_or, append-nil}
use Rattle.std.specs.Prelude.{◌==◌, filter, flat_map, find, count_by, unwrap_or, slice_index, is_some}
use Rattle.std.specs.List.{list_any, sum_by}
use Rattle.std.specs.Option.{option_or}
use Rattle.std.specs.Bool.{then_some}
use mir.Val.{bool_byte}
use Rattle.std.proofs.lemmas.List.{map-append, length-append, length-map, get_or-map}
use Rattle.std.proofs.lemmas.List.Elements.{filter-append}
use Rattle.std.proofs.lemmas.List.Folds.{find-append}
use Rattle.std.proofs.lemmas.List.Sums.{sum_by-append, count_by-le-length, sum_by-cons}
use Rattle.tl_definitions.specs.declared.Corner.{Corner}
use Rattle.tl_definitions.specs.Lattice.{corner, is_corner}
use Rattle.tl_definitions.specs.Region.{Region, steps, is_inner, is_corner_of, corner_rows, corners_before}
use Rattle.tl_definitions.specs.Accepted.{is_pinch}
use Rattle.tl_definitions.specs.Boundary.{is_boundary_corner}
use Rattle.tl_definitions.proofs.CornerRows.{before-more, length-before, length-corner_rows, corner_rows-at}
use Rattle.tl_definitions.proofs.InnerNumbers.{inner_corners-rows}
use Rattle.tl_definitions.proofs.NextCorner.{boundary_corner-exit}
use Rattle.tl_lists.proofs.Members.{In-any_of}
use Rattle.tl_lists.proofs.Searches.{find-In, find-none_any}
use Rattle.tl_lists.proofs.Positions.{position-missing, position-some, position-within}
use Rattle.std.proofs.lemmas.Bool.{ne_eqb}
use Rattle.std.proofs.lemmas.Nat.{mul-add-lt}
use Rattle.tl_definitions.specs.declared.rings.Dart.{Dart}
use Rattle.tl_grid.specs.declared.patterns.TheConstants.{NO_EXIT}
use Rattle.tl_definitions.proofs.EdgeCounts.{steps-count}
use Rattle.tl_definitions.specs.declared.Kind.{Kind}
use Rattle.tl_definitions.specs.declared.Kind.TheVariants.{Square, Triangle}
use Rattle.tl_definitions.specs.declared.TheConstants.{SIDE_LIMIT}
use Rattle.tl_definitions.specs.Limits.{most_corners}
use Rattle.tl_definitions.specs.Darts.{darts, leaves, is_outward, is_edge_of}
use Rattle.std.proofs.Math.Nat.{mul-le-mul, mul_comm}
use Rattle.tl_grid.specs.Grid.{IsGrid}
use Rattle.tl_grid.specs.declared.patterns.RingFacts.{RingFacts}
use Rattle.tl_grid.specs.declared.survey.Survey.{Survey}
use Rattle.tl_grid.specs.Patterns.{facts_of, no_facts, exit_of}
use Rattle.tl_grid.specs.Survey.{place_in, has_exit, exit_left, IsSurveyAmong, IsSurveyOf}

pub among-more : (R : Region) (r x : ℕ) (old new : Survey) (f : RingFacts) → f ≡ facts_of R (corner r x)
    → IsSurveyAmong R (corners_before (R.columns + 2) r x) old
    → new.pinch ≡ option_or old.pinch (then_some f.is_pinch (corner r x))
    → new.start ≡ option_or old.start (then_some (has_exit f) (corner r x))
    → new.boundary ≡ old.boundary + bool_byte (has_exit f)
    → new.corners ≡ old.corners + bool_byte f.is_touched
    → new.edges ≡ old.edges + f.steps
    → new.inner.items ≡ cond f.is_inner (old.inner.items ++ (place_in (R.columns + 2) (corner r x) ∷ [])) old.inner.items
    → new.exits.items ≡ old.exits.items ++ (f.exit ∷ [])
    → IsSurveyAmong R (corners_before (R.columns + 2) r (x + 1)) new
among-more R r x old new f is a pinch start boundary corners edges inner exits =
    let v : Corner = corner r x in
    let seen = corners_before (R.columns + 2) r x in
    let place = place_in (R.columns + 2) in
    subst (λ l. IsSurveyAmong R l new) (sym (before-more (R.columns + 2) r x)) (record {
      pinch = pinch ∙ (λ i. option_or (a.pinch i) (then_some (is i).is_pinch v)) ∙ sym (found (λ u. (facts_of R u).is_pinch) seen v);
      start = start ∙ (λ i. option_or (a.start i) (then_some (has_exit (is i)) v)) ∙ sym (found (λ u. has_exit (facts_of R u)) seen v);
      boundary = boundary ∙ (λ i. a.boundary i + bool_byte (has_exit (is i))) ∙ sym (counted (λ u. has_exit (facts_of R u)) seen v);
      corners = corners ∙ (λ i. a.corners i + bool_byte (is i).is_touched) ∙ sym (counted (λ u. (facts_of R u).is_touched) seen v);
      edges = edges ∙ (λ i. a.edges i + (is i).steps) ∙ sym (summed (λ u. (facts_of R u).steps) seen v);
      inner = inner ∙ (λ i. cond (is i).is_inner (a.inner i ++ (place v ∷ [])) (a.inner i)) ∙ sym (filtered (λ u. (facts_of R u).is_inner) seen v);
      exits = exits ∙ (λ i. a.exits i ++ ((is i).exit ∷ [])) ∙ sym (map-append (λ u. (facts_of R u).exit) seen (v ∷ []));
    })
  where
    summed : (g : Corner → ℕ) (vs : List Corner) (v : Corner) → sum_by g (vs ++ v ∷ []) ≡ sum_by g vs + g v
    summed g vs v = sum_by-append g vs (v ∷ []) ∙ ap (λ (n : ℕ). sum_by g vs + n) (sum_by-cons g v [] ∙ omega arith)

    counted : (p : Corner → Bool) (vs : List Corner) (v : Corner) → count_by p (vs ++ v ∷ []) ≡ count_by p vs + bool_byte (p v)
    counted p vs v = summed (λ u. cond (p u) 1 0) vs v ∙ ap (λ (n : ℕ). count_by p vs + n) (byte (p v))
      where
        byte : (t : Bool) → cond t 1 0 ≡ bool_byte t
        byte true = refl
        byte false = refl

    found : (p : Corner → Bool) (vs : List Corner) (v : Corner) → find p (vs ++ v ∷ []) ≡ option_or (find p vs) (then_some (p v) v)
    found p vs v = find-append p vs (v ∷ []) ∙ ap (option_or (find p vs)) (one (p v))
      where
        one : (t : Bool) → cond t (Some v) None ≡ then_some t v
        one true = refl
        one false = refl

    filtered : (p : Corner → Bool) (vs : List Corner) (v : Corner)
        → map (place_in (R.columns + 2)) (filter p (vs ++ v ∷ [])) ≡ cond (p v) (map (place_in (R.columns + 2)) (filter p vs) ++ (place_in (R.columns + 2) v ∷ [])) (map (place_in (R.columns + 2)) (filter p vs))
    filtered p vs v =
        ap (map (place_in (R.columns + 2))) (filter-append p vs (v ∷ [])) ∙ map-append (place_in (R.columns + 2)) (filter p vs) (filter p (v ∷ []))
        ∙ last (p v) (map (place_in (R.columns + 2)) (filter p vs))
      where
        last : (t : Bool) (ns : List ℕ) → ns ++ map (place_in (R.columns + 2)) (cond t (v ∷ []) []) ≡ cond t (ns ++ (place_in (R.columns + 2) v ∷ [])) ns
        last true ns = refl
        last false ns = append-nil ns

-- a place with no facts adds its exit alone
pub among-none : (R : Region) (r x : ℕ) (old new : Survey) → facts_of R (corner r x) ≡ no_facts
    → IsSurveyAmong R (corners_before (R.columns + 2) r x) old
    → new ≡ record { pinch = old.pinch; start = old.start; boundary = old.boundary; corners = old.corners; edges = old.edges; inner = old.inner; exits = new.exits }
    → new.exits.items ≡ old.exits.items ++ (NO_EXIT ∷ [])
    → IsSurveyAmong R (corners_before (R.columns + 2) r (x + 1)) new
among-none R r x old new is a same exits =
    among-more R r x old new no_facts (sym is) a
    (ap (λ (s : Survey). s.pinch) same ∙ none_more old.pinch)
    (ap (λ (s : Survey). s.start) same ∙ none_more old.start)
    (ap (λ (s : Survey). s.boundary) same ∙ omega arith)
    (ap (λ (s : Survey). s.corners) same ∙ omega arith)
    (ap (λ (s : Survey). s.edges) same ∙ omega arith)
    (ap (λ (s : Survey). s.inner.items) same)
    exits
  where
    none_more : (o : Option Corner) → o ≡ option_or o None
    none_more None = refl
    none_more (Some v) = refl

-- ---- there are few

pub bool_byte-few : (b : Bool) → bool_byte b ≤ 1
bool_byte-few true = omega arith
bool_byte-few false = omega arith

pub one_more : (b : Bool) (n : ℕ) → cond b (n + 1) n ≡ n + bool_byte b
one_more true n = refl
one_more false n = omega arith

steps-few : (R : Region) (v : Corner) → (facts_of R v).steps ≤ 6
steps-few R v = go (is_corner R.kind v) refl
  where
    few : (k : Kind) → length (darts k) ≤ 6
    few Square = omega arith
    few Triangle = omega arith

    go : (t : Bool) → is_corner R.kind v ≡ t → (facts_of R v).steps ≤ 6
    go true c =
        rw (c) (omega (arith, steps-count R v c, count_by-le-length (λ g. is_outward v g && is_edge_of R v g) (darts R.kind), few R.kind))
    go false c = rw (c) (omega arith)

-- as many corners and places as were seen, at most, and six times as many edges
pub among-few : (R : Region) (r x : ℕ) (s : Survey) → IsGrid R → r < R.rows + 1 → x < R.columns + 2 → IsSurveyAmong R (corners_before (R.columns + 2) r x) s
    → (s.boundary ≤ most_corners) × (s.corners ≤ most_corners) × (s.edges ≤ 6 * most_corners)
among-few R r x s is_grid h k a =
    let seen = corners_before (R.columns + 2) r x in
    let rows : r ≤ SIDE_LIMIT = omega (arith, h, is_grid.rows_within) in
    let width : R.columns + 2 ≤ SIDE_LIMIT + 2 = omega (arith, is_grid.columns_within) in
    let few : length seen ≤ most_corners = omega (arith, length-before (R.columns + 2) r x, mul-le-mul rows width, k) in (
      omega (arith, a.boundary, count_by-le-length (λ u. has_exit (facts_of R u)) seen, few),
      omega (arith, a.corners, count_by-le-length (λ u. (facts_of R u).is_touched) seen, few),
      omega (arith, a.edges, steps_of seen, few),
    )
  where
    steps_of : (vs : List Corner) → sum_by (λ u. (facts_of R u).steps) vs ≤ 6 * length vs
    steps_of [] = omega arith
    steps_of (v ∷ vs) = omega (arith, sum_by-cons (λ u. (facts_of R u).steps) v vs, steps-few R v, steps_of vs)

-- ---- all places

-- what the corners of the lattice tell, of all places
module _ {A : Type 0} (c q : A → Bool) where
  find-filtered : (xs : List A) → find (λ x. cond (c x) (q x) false) xs ≡ find q (filter c xs)
  find-filtered [] = refl
  find-filtered (x ∷ xs) = go (c x) (find-filtered xs)
    where
      go : (t : Bool) → find (λ x. cond (c x) (q x) false) xs ≡ find q (filter c xs)
          → cond (cond t (q x) false) (Some x) (find (λ x. cond (c x) (q x) false) xs) ≡ find q (cond t (x ∷ filter c xs) (filter c xs))
      go true ih = ap (cond (q x) (Some x)) ih
      go false ih = ih

  count-filtered : (xs : List A) → count_by (λ x. cond (c x) (q x) false) xs ≡ length (filter q (filter c xs))
  count-filtered [] = refl
  count-filtered (x ∷ xs) = sum_by-cons _ x xs ∙ ap (λ (n : ℕ). cond (cond (c x) (q x) false) 1 0 + n) (count-filtered xs) ∙ go (c x) (filter c xs)
    where
      inside : (u : Bool) (zs : List A) → cond u 1 0 + length (filter q zs) ≡ length (cond u (x ∷ filter q zs) (filter q zs))
      inside true zs = omega arith
      inside false zs = omega arith

      go : (t : Bool) (zs : List A) → cond (cond t (q x) false) 1 0 + length (filter q zs) ≡ length (filter q (cond t (x ∷ zs) zs))
      go true zs = inside (q x) zs
      go false zs = omega arith

sum-filtered : (f : Corner → List Corner) (c : Corner → Bool) (xs : List Corner) → sum_by (λ x. cond (c x) (length (f x)) 0) xs ≡ length (flat_map f (filter c xs))
sum-filtered f c [] = refl
sum-filtered f c (x ∷ xs) = sum_by-cons _ x xs ∙ go (c x) (sum-filtered f c xs)
  where
    go : (t : Bool) → sum_by (λ x. cond (c x) (length (f x)) 0) xs ≡ length (flat_map f (filter c xs))
        → cond t (length (f x)) 0 + sum_by (λ x. cond (c x) (length (f x)) 0) xs ≡ length (flat_map f (cond t (x ∷ filter c xs) (filter c xs)))
    go true ih = omega (arith, length-append (f x) (flat_map f (filter c xs)), ih)
    go false ih = omega (arith, ih)

cond-ap : {A B : Type 0} (f : A → B) (b : Bool) (x y : A) → f (cond b x y) ≡ cond b (f x) (f y)
cond-ap f true x y = refl
cond-ap f false x y = refl

-- a boundary corner is one with an exit
pub exit-boundary : (R : Region) (v : Corner) → is_corner R.kind v ≡ true → not (exit_of R v == NO_EXIT) ≡ is_boundary_corner R v
exit-boundary R v c = go (find (leaves R v) (darts R.kind)) refl ∙ sym (boundary_corner-exit R v c)
  where
    few : (k : Kind) → length (darts k) ≤ 6
    few Square = omega arith
    few Triangle = omega arith

    go : (o : Option Dart) → find (leaves R v) (darts R.kind) ≡ o → not (exit_of R v == NO_EXIT) ≡ is_some (find (leaves R v) (darts R.kind))
    go None e =
        ap (λ (n : Option ℕ). not (unwrap_or n NO_EXIT == NO_EXIT)) (position-missing (leaves R v) (darts R.kind) (find-none_any (leaves R v) (darts R.kind) e))
        ∙ sym (ap is_some e)
    go (Some g) e =
        let q = find-In (leaves R v) (darts R.kind) g e in
        let any : list_any (leaves R v) (darts R.kind) ≡ true = In-any_of (leaves R v) g (darts R.kind) q.0 q.1 in
        ap (λ (n : Option ℕ). not (unwrap_or n NO_EXIT == NO_EXIT)) (position-some (leaves R v) (darts R.kind) any)
        ∙ ap not (ne_eqb _ _ (λ same. omega (arith, same, position-within (leaves R v) (darts R.kind) any, few R.kind))) ∙ sym (ap is_some e)

-- A survey of all places is one of the region.
pub among-all : (R : Region) (s : Survey) → IsSurveyAmong R (corners_before (R.columns + 2) (R.rows + 1) 0) s → IsSurveyOf R s
among-all R s a = record {
  pinch = b.pinch ∙ (λ i. find (λ v. fact (λ f. f.is_pinch) v i) all) ∙ find-filtered (is_corner R.kind) (is_pinch R) all;
  start = b.start ∙ (λ i. find (λ v. boundary v i) all) ∙ find-filtered (is_corner R.kind) (is_boundary_corner R) all;
  boundary = b.boundary ∙ (λ i. count_by (λ v. boundary v i) all) ∙ count-filtered (is_corner R.kind) (is_boundary_corner R) all;
  corners = b.corners ∙ (λ i. count_by (λ v. fact (λ f. f.is_touched) v i) all) ∙ count-filtered (is_corner R.kind) (is_corner_of R) all;
  edges = b.edges ∙ (λ i. sum_by (λ v. fact (λ f. f.steps) v i) all) ∙ sum-filtered (steps R) (is_corner R.kind) all;
  inner = b.inner ∙ (λ i. map (place_in (R.columns + 2)) (filter (λ v. inner v i) all)) ∙ ap (map (place_in (R.columns + 2))) (sym (inner_corners-rows R));
  exits = record { size = size; at = at };
}
  where
    all : List Corner
    all = corner_rows (R.columns + 2) (R.rows + 1)

    b : IsSurveyAmong R (corner_rows (R.columns + 2) (R.rows + 1)) s
    b = subst (λ l. IsSurveyAmong R l s) (append-nil (corner_rows (R.columns + 2) (R.rows + 1))) a

    real : Corner → RingFacts
    real v = record { is_pinch = is_pinch R v; is_inner = is_inner R v; is_touched = is_corner_of R v; steps = length (steps R v); exit = exit_of R v }

    fact : {A : Type 0} (f : RingFacts → A) (v : Corner) → f (facts_of R v) ≡ cond (is_corner R.kind v) (f (real v)) (f no_facts)
    fact f v = cond-ap f (is_corner R.kind v) (real v) no_facts

    boundary : (v : Corner) → has_exit (facts_of R v) ≡ cond (is_corner R.kind v) (is_boundary_corner R v) false
    boundary v = fact has_exit v ∙ go (is_corner R.kind v) refl
      where
        go : (t : Bool) → is_corner R.kind v ≡ t → cond t (not (exit_of R v == NO_EXIT)) false ≡ cond t (is_boundary_corner R v) false
        go true c = exit-boundary R v c
        go false c = refl

    inner : (v : Corner) → (facts_of R v).is_inner ≡ is_inner R v
    inner v = fact (λ f. f.is_inner) v ∙ go (is_corner R.kind v) _
      where
        go : (t : Bool) (u : Bool) → cond t (t && u) false ≡ (t && u)
        go true u = refl
        go false u = refl

    exit : (v : Corner) → (facts_of R v).exit ≡ exit_left R [] v
    exit v = fact (λ f. f.exit) v

    size : length s.exits.items ≡ (R.rows + 1) * (R.columns + 2)
    size = ap length b.exits ∙ length-map all (λ v. (facts_of R v).exit) ∙ length-corner_rows (R.columns + 2) (R.rows + 1)

    at : (v : Corner) → v.r < R.rows + 1 → v.x < R.columns + 2 → slice_index s.exits.items (v.r * (R.columns + 2) + v.x) ≡ exit_left R [] v
    at v h k =
        let place = v.r * (R.columns + 2) + v.x in
        let below : place < (R.columns + 2) * (R.rows + 1) = mul-add-lt v.r (R.columns + 2) v.x (R.rows + 1) h k in
        let room : place < length all = omega (arith, below, length-corner_rows (R.columns + 2) (R.rows + 1), mul_comm (R.columns + 2) (R.rows + 1)) in
        ap (λ (l : List ℕ). get_or l place 0) b.exits ∙ get_or-map (λ u. (facts_of R u).exit) all place v 0 room
        ∙ ap (λ (u : Corner). (facts_of R u).exit) (corner_rows-at (R.columns + 2) (R.rows + 1) v.r v.x v h k) ∙ exit v
