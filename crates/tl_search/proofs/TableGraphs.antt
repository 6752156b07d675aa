-- The graphs of the tests are graphs, and their sources are sources.
use Rattle.std.proofs.Common.{◌≡◌, ℕ, zero, suc, ◌^◌, ◌≤◌, true, not, ◌&&◌, List, [], ◌∷◌, Option, Some, sym, ◌∙◌, ap, subst, arith, lit≤, pos, neg_ℤ, ◌≤ℤ◌}
use Rattle.std.specs.Prelude.{slice_get, nat_lt, ◌==◌, IsTrue}
use Rattle.std.specs.List.{list_all}
use Rattle.std.specs.Int.Signed.{le_z, le_z_yes}
use Rattle.std.proofs.lemmas.Bool.{and_parts, ltb-true, eq-eqb, not-true}
use Rattle.std.proofs.lemmas.Float.{T_from_true}
use Rattle.std.proofs.lemmas.Int.{ints}
use Rattle.std.proofs.lemmas.Option.{same_Some}
use Rattle.tl_lists.specs.Lists.{upto}
use Rattle.tl_lists.proofs.Members.{In, In-list_all, In-range, slice_get-In}
use Rattle.tl_search.specs.declared.spreading.Source.{Source}
use Rattle.tl_search.specs.Graphs.{IsGraph, has_step}
use Rattle.tl_search.specs.Spreading.{AreSources}
use Rattle.tl_search.specs.Tables.{row_of, table_graph, leads_back, is_table, are_sources}
use Rattle.tl_search.proofs.Paths.{has_step-In}

-- a step leads to a place, and another one back from there
leads-back : (steps back : List (List (Option ℕ))) → leads_back steps back ≡ true → (u v : ℕ) → nat_lt u 6 ≡ true → has_step (row_of steps) u v ≡ true
    → (nat_lt v 6 ≡ true) × (has_step (row_of back) v u ≡ true)
leads-back steps back e u v inside step =
    let row = In-list_all (λ w. list_all (λ x. nat_lt x 6 && has_step (row_of back) x w) (row_of steps w)) (upto 6) u e (In-range u 0 6 (omega arith) (ltb-true u 6 inside)) in
    and_parts (nat_lt v 6) (has_step (row_of back) v u)
    (In-list_all (λ x. nat_lt x 6 && has_step (row_of back) x u) (row_of steps u) v row (has_step-In (row_of steps) u v step))

pub IsGraph-table : (steps back : List (List (Option ℕ))) → IsTrue (is_table steps back) → IsGraph (table_graph steps back)
IsGraph-table steps back e =
    let p : (leads_back steps back ≡ true) × (leads_back back steps ≡ true) = and_parts _ _ e in
    record {
      few = lit≤ tt;
      inside = λ v is_place. ltb-true v 6 is_place;
      to_places = λ u v is_place step. (leads-back steps back p.0 u v is_place step).0;
      from_places = λ u v is_place step. (leads-back back steps p.1 v u is_place step).0;
      goes_back = λ u v is_place step. (leads-back steps back p.0 u v is_place step).1;
      comes_from = λ u v is_place step. (leads-back back steps p.1 v u is_place step).1;
    }

-- what the test says of the first source
record IsFirst (s : Source) (ss : List Source) : Type 0 where
  place : nat_lt s.place 6 ≡ true
  low : neg_ℤ (pos (2 ^ 30)) ≤ℤ s.number
  high : s.number ≤ℤ pos (2 ^ 30)
  later : (t : Source) → In t ss → (s.number ≤ℤ t.number) × (s.place ≡ t.place → ⊥)
  rest : are_sources ss ≡ true

first : (s : Source) (ss : List Source) → are_sources (s ∷ ss) ≡ true → IsFirst s ss
first s ss e =
    let a = and_parts (nat_lt s.place 6 && le_z (neg_ℤ (pos (2 ^ 30))) s.number && le_z s.number (pos (2 ^ 30)) && list_all (λ t. le_z s.number t.number && not (s.place == t.place)) ss) (are_sources ss) e in
    let b = and_parts (nat_lt s.place 6 && le_z (neg_ℤ (pos (2 ^ 30))) s.number && le_z s.number (pos (2 ^ 30))) (list_all (λ t. le_z s.number t.number && not (s.place == t.place)) ss) a.0 in
    let c = and_parts (nat_lt s.place 6 && le_z (neg_ℤ (pos (2 ^ 30))) s.number) (le_z s.number (pos (2 ^ 30))) b.0 in
    let d = and_parts (nat_lt s.place 6) (le_z (neg_ℤ (pos (2 ^ 30))) s.number) c.0 in
    record {
      place = d.0;
      low = le_z_yes (T_from_true _ d.1);
      high = le_z_yes (T_from_true _ c.1);
      later = λ t i.
          let p = and_parts (le_z s.number t.number) (not (s.place == t.place)) (In-list_all (λ t. le_z s.number t.number && not (s.place == t.place)) ss t b.1 i) in
          (le_z_yes (T_from_true _ p.0), λ same. cc (eq-eqb s.place t.place same, not-true (s.place == t.place) p.1));
      rest = a.1;
    }

place : (ss : List Source) → are_sources ss ≡ true → (i : ℕ) (s : Source) → slice_get ss i ≡ Some s → nat_lt s.place 6 ≡ true
place [] e i s f = cc f
place (t ∷ ss) e zero s f = subst (λ (s : Source). nat_lt s.place 6 ≡ true) (same_Some t s f) (first t ss e).place
place (t ∷ ss) e (suc i) s f = place ss (first t ss e).rest i s f

low : (ss : List Source) → are_sources ss ≡ true → (i : ℕ) (s : Source) → slice_get ss i ≡ Some s → neg_ℤ (pos (2 ^ 30)) ≤ℤ s.number
low [] e i s f = cc f
low (t ∷ ss) e zero s f = subst (λ (s : Source). neg_ℤ (pos (2 ^ 30)) ≤ℤ s.number) (same_Some t s f) (first t ss e).low
low (t ∷ ss) e (suc i) s f = low ss (first t ss e).rest i s f

high : (ss : List Source) → are_sources ss ≡ true → (i : ℕ) (s : Source) → slice_get ss i ≡ Some s → s.number ≤ℤ pos (2 ^ 30)
high [] e i s f = cc f
high (t ∷ ss) e zero s f = subst (λ (s : Source). s.number ≤ℤ pos (2 ^ 30)) (same_Some t s f) (first t ss e).high
high (t ∷ ss) e (suc i) s f = high ss (first t ss e).rest i s f

in_order : (ss : List Source) → are_sources ss ≡ true → (i j : ℕ) (s t : Source) → i ≤ j → slice_get ss i ≡ Some s → slice_get ss j ≡ Some t → s.number ≤ℤ t.number
in_order [] e i j s t h f g = cc f
in_order (u ∷ ss) e zero zero s t h f g =
    let same : t.number ≡ s.number = ap (λ (s : Source). s.number) (sym (same_Some u t g) ∙ same_Some u s f) in omega (arith, ints, same)
in_order (u ∷ ss) e zero (suc j) s t h f g =
    subst (λ (s : Source). s.number ≤ℤ t.number) (same_Some u s f) ((first u ss e).later t (slice_get-In ss j t g)).0
in_order (u ∷ ss) e (suc i) zero s t h f g = absurd (omega (arith, h))
in_order (u ∷ ss) e (suc i) (suc j) s t h f g = in_order ss (first u ss e).rest i j s t (omega (arith, h)) f g

one_number : (ss : List Source) → are_sources ss ≡ true → (i j : ℕ) (s t : Source) → slice_get ss i ≡ Some s → slice_get ss j ≡ Some t → s.place ≡ t.place → s.number ≡ t.number
one_number [] e i j s t f g p = cc f
one_number (u ∷ ss) e zero zero s t f g p = ap (λ (s : Source). s.number) (sym (same_Some u s f) ∙ same_Some u t g)
one_number (u ∷ ss) e zero (suc j) s t f g p =
    absurd (((first u ss e).later t (slice_get-In ss j t g)).1 (ap (λ (s : Source). s.place) (same_Some u s f) ∙ p))
one_number (u ∷ ss) e (suc i) zero s t f g p =
    absurd (((first u ss e).later s (slice_get-In ss i s f)).1 (ap (λ (s : Source). s.place) (same_Some u t g) ∙ sym p))
one_number (u ∷ ss) e (suc i) (suc j) s t f g p = one_number ss (first u ss e).rest i j s t f g p

pub AreSources-table : (steps back : List (List (Option ℕ))) (ss : List Source) → IsTrue (are_sources ss) → AreSources (table_graph steps back) ss
AreSources-table steps back ss e = record { places = place ss e; one_number = one_number ss e; in_order = in_order ss e; low = low ss e; high = high ss e }
