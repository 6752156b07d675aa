-- The pattern of a corner, and what it tells.
use Rattle.std.proofs.Common.{◌≡◌, ℕ, zero, suc, ◌+◌, ◌-◌, ◌≢◌, ◌%◌, ◌<◌, ◌⊎◌, inl, inr, Bool, true, false, not, ◌&&◌, ◌||◌, List, [], ◌∷◌, map, length, cond, Option, Some, None, refl, sym, ◌∙◌, ap, subst, arith, get_or}
use Rattle.std.proofs.lemmas.Bool.{and_parts}
use Rattle.std.proofs.lemmas.Bool.Decides.{nat_tests}
use Rattle.std.proofs.lemmas.List.Sums.{sum_by-cons}
use Rattle.std.specs.Prelude.{◌==◌, nat_le, nat_lt, count_by, position, unwrap_or}
use Rattle.std.specs.List.{list_any, list_all, position_or_len}
use Rattle.tl_definitions.specs.declared.Kind.{Kind}
use Rattle.tl_definitions.specs.declared.Kind.TheVariants.{Square, Triangle}
use Rattle.tl_definitions.specs.declared.Corner.{Corner}
use Rattle.tl_definitions.specs.declared.rings.Dart.{Dart}
use Rattle.tl_definitions.specs.Lattice.{cell, corner, is_corner, cell_back, less, cell_at, ring}
use Rattle.tl_definitions.specs.Region.{Region, has, row_part, has_at, is_inner, is_corner_of, steps}
use Rattle.tl_definitions.specs.Accepted.{is_pinch}
use Rattle.tl_definitions.specs.Darts.{back, darts, left_cell, right_cell, leaves, enters, is_outward, is_edge_of}
use Rattle.tl_definitions.proofs.Turns.{runs-enters}
use Rattle.tl_definitions.proofs.CornerRings.{is_corner_of-ring}
use Rattle.tl_definitions.proofs.EdgeCounts.{steps-count}
use Rattle.tl_lists.specs.Lists.{upto}
use Rattle.tl_lists.proofs.Members.{In, In-range, In-list_all}
use mathlib.Core.List.{map-map}
use Rattle.std.proofs.lemmas.List.{length-map}
use Rattle.std.proofs.lemmas.List.FromFn.{get_or-map-range_with_len, length-map-range_with_len}
use Rattle.tl_definitions.proofs.Darts.{lies-cell_back}
use Rattle.tl_grid.specs.Grid.{IsGrid}
use Rattle.tl_grid.proofs.GridLemmas.{has-outside}
use Rattle.tl_grid.specs.declared.patterns.RingFacts.{RingFacts}
use Rattle.tl_grid.specs.declared.patterns.TheConstants.{NO_EXIT}
use Rattle.tl_grid.specs.Patterns.{has_place, next_pattern, leaves_in, enters_in, is_edge_in, is_corner_by, is_outward_by, no_facts, facts_by, exit_of, facts_of}

-- the pattern of a corner
pub record IsPatternOf (R : Region) (v : Corner) (p : ℕ) : Type 0 where
  pub small : p < 64
  pub below_0 : has_place p (back 0 0) ≡ has_at R (cell_back v 0 0)
  pub below_1 : has_place p (back 0 1) ≡ has_at R (cell_back v 0 1)
  pub below_2 : has_place p (back 0 2) ≡ has_at R (cell_back v 0 2)
  pub above_0 : has_place p (back 1 0) ≡ has_at R (cell_back v 1 0)
  pub above_1 : has_place p (back 1 1) ≡ has_at R (cell_back v 1 1)
  pub above_2 : has_place p (back 1 2) ≡ has_at R (cell_back v 1 2)

-- ---- the next pattern

-- the pattern of the places before a corner's own column
pub record IsPatternBefore (R : Region) (v : Corner) (p : ℕ) : Type 0 where
  pub small : p < 64
  pub below_1 : has_place p (back 0 0) ≡ has_at R (cell_back v 0 1)
  pub below_2 : has_place p (back 0 1) ≡ has_at R (cell_back v 0 2)
  pub above_1 : has_place p (back 1 0) ≡ has_at R (cell_back v 1 1)
  pub above_2 : has_place p (back 1 1) ≡ has_at R (cell_back v 1 2)

abbrev same : Bool → Bool → Bool
same true b = b
same false b = not b

same-is : (a b : Bool) → same a b ≡ true → a ≡ b
same-is true b e = sym e
same-is false true e = cc e
same-is false false e = refl

-- the two bits of the new column are the lowest ones, and all others move up
abbrev moves_up : Bool → Bool → ℕ → Bool
moves_up above below p =
    let q = next_pattern p above below in
    same (has_place q (back 0 0)) below && (same (has_place q (back 1 0)) above
    && (same (has_place q (back 0 1)) (has_place p (back 0 0)) && (same (has_place q (back 1 1)) (has_place p (back 1 0))
    && (same (has_place q (back 0 2)) (has_place p (back 0 1)) && same (has_place q (back 1 2)) (has_place p (back 1 1))))))

all_move_up : (above below : Bool) → list_all (moves_up above below) (upto 64) ≡ true
all_move_up true true = refl
all_move_up true false = refl
all_move_up false true = refl
all_move_up false false = refl

pub pattern-next : (R : Region) (v : Corner) (p : ℕ) (above below : Bool) → IsPatternBefore R v p
    → above ≡ has_at R (cell_back v 1 0) → below ≡ has_at R (cell_back v 0 0) → IsPatternOf R v (next_pattern p above below)
pattern-next R v p above below b e f =
    let up : moves_up above below p ≡ true =
    In-list_all (moves_up above below) (upto 64) p (all_move_up above below) (In-range p 0 64 (omega arith) (omega (arith, b.small))) in
    let q = next_pattern p above below in
    let one = and_parts (same (has_place q (back 0 0)) below) _ up in
    let two = and_parts (same (has_place q (back 1 0)) above) _ one.1 in
    let three = and_parts (same (has_place q (back 0 1)) (has_place p (back 0 0))) _ two.1 in
    let four = and_parts (same (has_place q (back 1 1)) (has_place p (back 1 0))) _ three.1 in
    let five = and_parts (same (has_place q (back 0 2)) (has_place p (back 0 1))) _ four.1 in
    record {
      small = few above below;
      below_0 = same-is _ _ one.0 ∙ f;
      above_0 = same-is _ _ two.0 ∙ e;
      below_1 = same-is _ _ three.0 ∙ b.below_1;
      above_1 = same-is _ _ four.0 ∙ b.above_1;
      below_2 = same-is _ _ five.0 ∙ b.below_2;
      above_2 = same-is _ _ five.1 ∙ b.above_2;
    }
  where
    few : (above below : Bool) → next_pattern p above below < 64
    few true true = omega arith
    few true false = omega arith
    few false true = omega arith
    few false false = omega arith

less-up : (n k : ℕ) → less (n + 1) (k + 1) ≡ less n k
less-up n k = grind (arith, nat_tests)

none_back : (o : Option ℕ) → cell_at o None ≡ None
none_back None = refl
none_back (Some r) = refl

-- what stands before the first column
pub pattern-start : (R : Region) (r : ℕ) → IsPatternBefore R (corner r 0) 0
pattern-start R r = record {
  small = omega arith;
  below_1 = sym (ap (has_at R) (none_back (less r 0)));
  below_2 = sym (ap (has_at R) (none_back (less r 0)));
  above_1 = sym (ap (has_at R) (none_back (less r 1)));
  above_2 = sym (ap (has_at R) (none_back (less r 1)));
}

-- the pattern of a corner is what stands before the next one
pub pattern-before : (R : Region) (r x p : ℕ) → IsPatternOf R (corner r x) p → IsPatternBefore R (corner r (x + 1)) p
pattern-before R r x p q = record {
  small = q.small;
  below_1 = q.below_0 ∙ moved 0 0;
  below_2 = q.below_1 ∙ moved 0 1;
  above_1 = q.above_0 ∙ moved 1 0;
  above_2 = q.above_1 ∙ moved 1 1;
}
  where
    moved : (rows columns : ℕ) → has_at R (cell_back (corner r x) rows columns) ≡ has_at R (cell_back (corner r (x + 1)) rows (columns + 1))
    moved rows columns = ap (λ (o : Option ℕ). has_at R (cell_at (less r rows) o)) (sym (less-up x columns))

-- ---- what a pattern tells

-- a place of the ring, on both sides of each dart
places-same : (R : Region) (v : Corner) (p : ℕ) (k : Kind) (g : Dart) → IsPatternOf R v p → In g (darts k)
    → (has_place p g.left ≡ has_at R (left_cell v g)) × (has_place p g.right ≡ has_at R (right_cell v g))
places-same R v p k g q i = go k i
  where
    at : (h : Dart) → g ≡ h → (has_place p h.left ≡ has_at R (left_cell v h)) × (has_place p h.right ≡ has_at R (right_cell v h))
        → (has_place p g.left ≡ has_at R (left_cell v g)) × (has_place p g.right ≡ has_at R (right_cell v g))
    at h e f = subst (λ (d : Dart). (has_place p d.left ≡ has_at R (left_cell v d)) × (has_place p d.right ≡ has_at R (right_cell v d))) (sym e) f

    go : (k : Kind) → In g (darts k) → (has_place p g.left ≡ has_at R (left_cell v g)) × (has_place p g.right ≡ has_at R (right_cell v g))
    go Square (inl e) = at _ e (q.above_1, q.above_0)
    go Square (inr (inl e)) = at _ e (q.above_0, q.below_0)
    go Square (inr (inr (inl e))) = at _ e (q.below_0, q.below_1)
    go Square (inr (inr (inr (inl e)))) = at _ e (q.below_1, q.above_1)
    go Square (inr (inr (inr (inr i)))) = absurd i
    go Triangle (inl e) = at _ e (q.above_2, q.above_1)
    go Triangle (inr (inl e)) = at _ e (q.above_1, q.above_0)
    go Triangle (inr (inr (inl e))) = at _ e (q.above_0, q.below_0)
    go Triangle (inr (inr (inr (inl e)))) = at _ e (q.below_0, q.below_1)
    go Triangle (inr (inr (inr (inr (inl e))))) = at _ e (q.below_1, q.below_2)
    go Triangle (inr (inr (inr (inr (inr (inl e)))))) = at _ e (q.below_2, q.above_2)
    go Triangle (inr (inr (inr (inr (inr (inr i)))))) = absurd i

module _ {A : Type 0} (p q : A → Bool) where
  count_by-same : (xs : List A) → ((x : A) → In x xs → p x ≡ q x) → count_by p xs ≡ count_by q xs
  count_by-same [] f = refl
  count_by-same (x ∷ xs) f = sum_by-cons _ x xs ∙ (λ i. cond (f x (inl refl) i) 1 0 + count_by-same xs (λ y j. f y (inr j)) i) ∙ sym (sum_by-cons _ x xs)

  list_any-same : (xs : List A) → ((x : A) → In x xs → p x ≡ q x) → list_any p xs ≡ list_any q xs
  list_any-same [] f = refl
  list_any-same (x ∷ xs) f = λ i. f x (inl refl) i || list_any-same xs (λ y j. f y (inr j)) i

  list_all-same : (xs : List A) → ((x : A) → In x xs → p x ≡ q x) → list_all p xs ≡ list_all q xs
  list_all-same [] f = refl
  list_all-same (x ∷ xs) f = λ i. f x (inl refl) i && list_all-same xs (λ y j. f y (inr j)) i

  position_or_len-same : (xs : List A) → ((x : A) → In x xs → p x ≡ q x) → position_or_len p xs ≡ position_or_len q xs
  position_or_len-same [] f = refl
  position_or_len-same (x ∷ xs) f = λ i. cond (not (f x (inl refl) i)) (1 + position_or_len-same xs (λ y j. f y (inr j)) i) 0

pub ring-darts : (R : Region) (v : Corner) (k : Kind) → list_all (λ g. has_at R (left_cell v g)) (darts k) ≡ list_all (has_at R) (ring k v)
ring-darts R v Square = refl
ring-darts R v Triangle = refl

parity-corner : (k : Kind) (v : Corner) → is_corner_by k ((v.r + v.x) % 2) ≡ is_corner k v
parity-corner Square v = refl
parity-corner Triangle v = refl

parity-outward : (v : Corner) (g : Dart) → is_outward_by ((v.r + v.x) % 2) g ≡ is_outward v g
parity-outward v g = ap (λ (n : ℕ). n == 0) (omega arith)

-- A pattern tells of its corner what the ring does.
pub pattern-facts : (R : Region) (v : Corner) (p : ℕ) → IsPatternOf R v p → facts_by R.kind ((v.r + v.x) % 2) p ≡ facts_of R v
pattern-facts R v p q = go (is_corner R.kind v) refl
  where
    places : (g : Dart) → In g (darts R.kind) → (has_place p g.left ≡ has_at R (left_cell v g)) × (has_place p g.right ≡ has_at R (right_cell v g))
    places g i = places-same R v p R.kind g q i

    left : (g : Dart) → In g (darts R.kind) → has_place p g.left ≡ has_at R (left_cell v g)
    left g i = (places g i).0

    leaving : (g : Dart) → In g (darts R.kind) → leaves_in p g ≡ leaves R v g
    leaving g i = λ j. (places g i).0 j && not ((places g i).1 j)

    pinch : nat_le 2 (count_by (enters_in p) (darts R.kind)) ≡ is_pinch R v
    pinch =
        ap (λ (n : ℕ). nat_le 2 n)
        (count_by-same (enters_in p) (enters R v) (darts R.kind) (λ g i j. not ((places g i).0 j) && (places g i).1 j) ∙ sym (runs-enters R v))

    inner : list_all (λ g. has_place p g.left) (darts R.kind) ≡ list_all (has_at R) (ring R.kind v)
    inner = list_all-same (λ g. has_place p g.left) (λ g. has_at R (left_cell v g)) (darts R.kind) left ∙ ring-darts R v R.kind

    exit : unwrap_or (position (leaves_in p) (darts R.kind)) NO_EXIT ≡ exit_of R v
    exit =
        ap (λ (n : ℕ). unwrap_or (cond (nat_lt n (length (darts R.kind))) (Some n) None) NO_EXIT)
        (position_or_len-same (leaves_in p) (leaves R v) (darts R.kind) leaving)

    touched : is_corner R.kind v ≡ true → list_any (λ g. has_place p g.left) (darts R.kind) ≡ is_corner_of R v
    touched c =
        list_any-same (λ g. has_place p g.left) (λ g. has_at R (left_cell v g)) (darts R.kind) left ∙ sym (is_corner_of-ring R v c)

    outward : is_corner R.kind v ≡ true → count_by (λ g. is_outward_by ((v.r + v.x) % 2) g && is_edge_in p g) (darts R.kind) ≡ length (steps R v)
    outward c =
        count_by-same (λ g. is_outward_by ((v.r + v.x) % 2) g && is_edge_in p g) (λ g. is_outward v g && is_edge_of R v g) (darts R.kind)
        (λ g i j. parity-outward v g j && ((places g i).0 j || (places g i).1 j))
        ∙ sym (steps-count R v c)

    told : RingFacts
    told = record {
      is_pinch = nat_le 2 (count_by (enters_in p) (darts R.kind));
      is_inner = list_all (λ g. has_place p g.left) (darts R.kind);
      is_touched = list_any (λ g. has_place p g.left) (darts R.kind);
      steps = count_by (λ g. is_outward_by ((v.r + v.x) % 2) g && is_edge_in p g) (darts R.kind);
      exit = unwrap_or (position (leaves_in p) (darts R.kind)) NO_EXIT;
    }

    real : RingFacts
    real = record { is_pinch = is_pinch R v; is_inner = is_inner R v; is_touched = is_corner_of R v; steps = length (steps R v); exit = exit_of R v }

    go : (t : Bool) → is_corner R.kind v ≡ t → facts_by R.kind ((v.r + v.x) % 2) p ≡ facts_of R v
    go false c = ap (λ (b : Bool). cond b told no_facts) (parity-corner R.kind v ∙ c) ∙ sym (ap (λ (b : Bool). cond b real no_facts) c)
    go true c =
        ap (λ (b : Bool). cond b told no_facts) (parity-corner R.kind v ∙ c)
        ∙ (λ i. record { is_pinch = pinch i; is_inner = sym c i && inner i; is_touched = touched c i; steps = outward c i; exit = exit i })
        ∙ sym (ap (λ (b : Bool). cond b real no_facts) c)

-- no cell tells nothing
pub facts-none : (k : Kind) (parity : ℕ) → parity < 2 → facts_by k parity 0 ≡ no_facts
facts-none Square zero h = refl
facts-none Square (suc zero) h = refl
facts-none Square (suc (suc n)) h = absurd (omega (arith, h))
facts-none Triangle zero h = refl
facts-none Triangle (suc zero) h = refl
facts-none Triangle (suc (suc n)) h = absurd (omega (arith, h))

-- ---- the flags of two rows

back_here : (R : Region) (r x : ℕ) → has_at R (cell_back (corner r x) 0 0) ≡ has R (cell r x)
back_here R r x = ap (has_at R) (lies-cell_back (corner r x) (back 0 0) (cell r x) (record { row = omega arith; column = omega arith }))

back_above : (R : Region) (r x : ℕ) → r ≢ 0 → has_at R (cell_back (corner r x) 1 0) ≡ has R (cell (r - 1) x)
back_above R r x h = ap (has_at R) (lies-cell_back (corner r x) (back 1 0) (cell (r - 1) x) (record { row = omega (arith, h); column = omega arith }))

-- no cell is above the first row, nor in the row after the last
pub flags-above : (R : Region) (r above : ℕ) → IsGrid R → ((r ≡ 0) × (above ≡ R.rows)) ⊎ ((r ≢ 0) × (above ≡ r - 1))
    → map (has R) (row_part above 0 (R.columns + 2)) ≡ map (λ x. has_at R (cell_back (corner r x) 1 0)) (upto (R.columns + 2))
flags-above R r above is_grid which =
    map-map (has R) (λ c. cell above c) (upto (R.columns + 2)) ∙ (λ i. map (λ x. at which x i) (upto (R.columns + 2)))
  where
    at : ((r ≡ 0) × (above ≡ R.rows)) ⊎ ((r ≢ 0) × (above ≡ r - 1)) → (x : ℕ) → has R (cell above x) ≡ has_at R (cell_back (corner r x) 1 0)
    at (inl p) x = has-outside R (cell above x) is_grid (λ q. omega (arith, p.1, q.0)) ∙ ap (λ (n : ℕ). has_at R (cell_back (corner n x) 1 0)) (sym p.0)
    at (inr p) x = ap (λ (n : ℕ). has R (cell n x)) p.1 ∙ sym (back_above R r x p.0)

-- the pattern of a corner, from the flags in its column
pub pattern-flags : (R : Region) (r x p q : ℕ) (above below : List Bool) → q ≡ next_pattern p (get_or above x false) (get_or below x false) → x < R.columns + 2 → IsPatternBefore R (corner r x) p
    → above ≡ map (λ x. has_at R (cell_back (corner r x) 1 0)) (upto (R.columns + 2))
    → below ≡ map (has R) (row_part r 0 (R.columns + 2))
    → IsPatternOf R (corner r x) q
pattern-flags R r x p q above below is h b e f =
    subst (IsPatternOf R (corner r x)) (sym is)
    (pattern-next R (corner r x) p (get_or above x false) (get_or below x false) b
    (ap (λ (l : List Bool). get_or l x false) e
    ∙ get_or-map-range_with_len (λ x. has_at R (cell_back (corner r x) 1 0)) 0 (R.columns + 2) x x false h (omega arith))
    (ap (λ (l : List Bool). get_or l x false) (f ∙ map-map (has R) (λ c. cell r c) (upto (R.columns + 2)))
    ∙ get_or-map-range_with_len (λ c. has R (cell r c)) 0 (R.columns + 2) x x false h (omega arith) ∙ sym (back_here R r x)))

pub length-above : (R : Region) (r : ℕ) → length (map (λ x. has_at R (cell_back (corner r x) 1 0)) (upto (R.columns + 2))) ≡ R.columns + 2
length-above R r = length-map-range_with_len (λ x. has_at R (cell_back (corner r x) 1 0)) 0 (R.columns + 2)

pub length-row : (R : Region) (r : ℕ) → length (map (has R) (row_part r 0 (R.columns + 2))) ≡ R.columns + 2
length-row R r = length-map (row_part r 0 (R.columns + 2)) (has R) ∙ length-map-range_with_len (λ c. cell r c) 0 (R.columns + 2)
