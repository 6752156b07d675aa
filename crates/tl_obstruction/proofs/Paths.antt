-- The lines of a path, read one after the other.
use Rattle.std.proofs.Common.{◌≡◌, ◌⊎◌, inl, inr, ℕ, ◌+◌, ◌<◌, ◌≤◌, Bool, true, false, not, cond, List, [], ◌∷◌, ◌++◌, append_assoc, length, Option, Some, None, refl, sym, ◌∙◌, ap, arith, ℤ}
use Rattle.std.specs.Prelude.{◌&&◌, ◌==◌, if◌then◌else◌, nat_le, position, is_some}
use Rattle.std.specs.List.{enumerate_from, filter_map, cons_option, list_any, position_or_len}
use Rattle.std.proofs.lemmas.Bool.{or_left, or_right, or_from, cases_Bool, le-leb, lt-leb, eq-eqb, ne_eqb}
use Rattle.std.proofs.lemmas.List.{append-nil}
use Rattle.tl_lists.proofs.Positions.{position-some, position-missing}
use Rattle.tl_definitions.specs.declared.Corner.{Corner}
use Rattle.tl_formats.specs.Input.{Section}
use Rattle.tl_formats.specs.ObstructionText.{gap_head, corner_of_line, first_bad_after}

-- ---- the first place in a list with one more element

position-first : {A : Type 0} (p : A → Bool) (x : A) (xs : List A) → p x ≡ true → position p (x ∷ xs) ≡ Some 0
position-first p x xs e = let here : position_or_len p (x ∷ xs) ≡ 0 = rw e refl in position-some p (x ∷ xs) (or_left _ _ e) ∙ ap (λ (n : ℕ). Some n) here

position-next : {A : Type 0} (p : A → Bool) (x : A) (xs : List A) → p x ≡ false
    → ((i : ℕ) × (position p xs ≡ Some i) × (position p (x ∷ xs) ≡ Some (1 + i))) ⊎ ((position p xs ≡ None) × (position p (x ∷ xs) ≡ None))
position-next p x xs e = go (cases_Bool (list_any p xs))
  where
    go : (list_any p xs ≡ true) ⊎ (list_any p xs ≡ false) → ((i : ℕ) × (position p xs ≡ Some i) × (position p (x ∷ xs) ≡ Some (1 + i))) ⊎ ((position p xs ≡ None) × (position p (x ∷ xs) ≡ None))
    go (inl h) =
        let next : position_or_len p (x ∷ xs) ≡ 1 + position_or_len p xs = rw e refl in
        inl (position_or_len p xs, position-some p xs h, position-some p (x ∷ xs) (or_right _ _ h) ∙ ap (λ (n : ℕ). Some n) next)
    go (inr h) = inr (position-missing p xs h, position-missing p (x ∷ xs) (or_from _ _ e h))

-- ---- the first bad line, from a line on

abbrev is_good : ℕ → ℕ → List ℕ → Bool
is_good n k l = nat_le k n && is_some (corner_of_line l)

abbrev pub bad_from : ℕ → ℕ → List (List ℕ) → Option ℕ
bad_from n k [] = if k == n + 1 then None else Some (k + 2)
bad_from n k (l ∷ ls) = if is_good n k l then bad_from n (k + 1) ls else Some (k + 2)

abbrev bad_end : ℕ → ℕ → Option ℕ
bad_end n k = if k == n + 1 then None else Some (k + 2)

abbrev bad_at : ℕ → ℕ → ℕ → Option ℕ → Option ℕ
bad_at n k len (Some i) = Some (k + i + 2)
bad_at n k len None = bad_end n (k + len)

abbrev fails : ℕ → ℕ × List ℕ → Bool
fails n p = not (is_good n p.0 p.1)

bad_from-is : (n k : ℕ) (ls : List (List ℕ)) → bad_at n k (length ls) (position (fails n) (enumerate_from k ls)) ≡ bad_from n k ls
bad_from-is n k [] = ap (bad_end n) (omega arith)
bad_from-is n k (l ∷ ls) = go (is_good n k l) refl (bad_from-is n (k + 1) ls)
  where
    rest : List (ℕ × List ℕ)
    rest = enumerate_from (k + 1) ls

    on : not (is_good n k l) ≡ false → bad_at n (k + 1) (length ls) (position (fails n) (enumerate_from (k + 1) ls)) ≡ bad_from n (k + 1) ls
        → bad_at n k (length (l ∷ ls)) (position (fails n) ((k, l) ∷ enumerate_from (k + 1) ls)) ≡ bad_from n (k + 1) ls
    on e ih = next (position-next (fails n) (k, l) (enumerate_from (k + 1) ls) e)
      where
        next : ((i : ℕ) × (position (fails n) (enumerate_from (k + 1) ls) ≡ Some i) × (position (fails n) ((k, l) ∷ enumerate_from (k + 1) ls) ≡ Some (1 + i)))
            ⊎ ((position (fails n) (enumerate_from (k + 1) ls) ≡ None) × (position (fails n) ((k, l) ∷ enumerate_from (k + 1) ls) ≡ None))
            → bad_at n k (length (l ∷ ls)) (position (fails n) ((k, l) ∷ enumerate_from (k + 1) ls)) ≡ bad_from n (k + 1) ls
        next (inl (i, f, g)) =
            ap (bad_at n k (length (l ∷ ls))) g ∙ ap (λ (m : ℕ). Some m) (omega arith) ∙ sym (ap (bad_at n (k + 1) (length ls)) f) ∙ ih
        next (inr (f, g)) =
            ap (bad_at n k (length (l ∷ ls))) g ∙ ap (bad_end n) (omega arith) ∙ sym (ap (bad_at n (k + 1) (length ls)) f) ∙ ih

    go : (t : Bool) → is_good n k l ≡ t → bad_at n (k + 1) (length ls) (position (fails n) (enumerate_from (k + 1) ls)) ≡ bad_from n (k + 1) ls
        → bad_at n k (length (l ∷ ls)) (position (fails n) ((k, l) ∷ enumerate_from (k + 1) ls)) ≡ cond t (bad_from n (k + 1) ls) (Some (k + 2))
    go true e ih = on (ap (λ (b : Bool). not b) e) ih
    go false e ih =
        ap (bad_at n k (length (l ∷ ls))) (position-first (fails n) (k, l) (enumerate_from (k + 1) ls) (ap (λ (b : Bool). not b) e))
        ∙ ap (λ (m : ℕ). Some m) (omega arith)

pub gap-bad : (rise : ℤ) (n : ℕ) (ls : List (List ℕ)) → first_bad_after (gap_head rise n) ls ≡ bad_from n 0 ls
gap-bad rise n ls = go (position (fails n) (enumerate_from 0 ls)) ∙ bad_from-is n 0 ls
  where
    go : (o : Option ℕ) → elim o [ Some i ↦ Some (i + 2) | None ↦ if length ls == n + 1 then None else Some (length ls + 2) ] ≡ bad_at n 0 (length ls) o
    go (Some i) = ap (λ (m : ℕ). Some m) (omega arith)
    go None = ap (bad_end n) (omega arith)

-- ---- a turn of the loop

-- The first k lines are corners of a path of n steps; the other lines are left.
pub record IsReadTo (n k : ℕ) (all left : Section) (path : List Corner) : Type 0 where
  pub bad : bad_from n 0 all.lines ≡ bad_from n k left.lines
  pub corners : filter_map corner_of_line all.lines ≡ path ++ filter_map corner_of_line left.lines
  pub rest : all.rest ≡ left.rest
  pub few : k ≤ n + 1

module _ (n k : ℕ) (all left : Section) (path : List Corner) (so_far : IsReadTo n k all left path) where
  module _ (line : List ℕ) (next : Section) (e : left ≡ record { lines = line ∷ next.lines; rest = next.rest }) where
    pub read-corner : (v : Corner) → k ≤ n → Some v ≡ corner_of_line line → IsReadTo n (k + 1) all next (path ++ v ∷ [])
    read-corner v h at = record {
      bad = so_far.bad ∙ ap (λ (s : Section). bad_from n k s.lines) e ∙ ap (λ (t : Bool). if t then bad_from n (k + 1) next.lines else Some (k + 2)) good;
      corners =
          so_far.corners ∙ ap (λ (s : Section). path ++ filter_map corner_of_line s.lines) e
          ∙ ap (λ (o : Option Corner). path ++ cons_option o (filter_map corner_of_line next.lines)) (sym at)
          ∙ sym (append_assoc path (v ∷ []) (filter_map corner_of_line next.lines));
      rest = so_far.rest ∙ ap (λ (s : Section). s.rest) e;
      few = omega (arith, h);
    }
      where
        good : is_good n k line ≡ true
        good = rw (le-leb k n h, ← at) refl

    pub read-bad : is_good n k line ≡ false → bad_from n 0 all.lines ≡ Some (k + 2)
    read-bad wrong = so_far.bad ∙ ap (λ (s : Section). bad_from n k s.lines) e ∙ ap (λ (t : Bool). if t then bad_from n (k + 1) next.lines else Some (k + 2)) wrong

    pub read-no_corner : None ≡ corner_of_line line → bad_from n 0 all.lines ≡ Some (k + 2)
    read-no_corner none = read-bad (wrong (nat_le k n))
      where
        wrong : (t : Bool) → (t && is_some (corner_of_line line)) ≡ false
        wrong true = ap (λ (o : Option Corner). is_some o) (sym none)
        wrong false = refl

    pub read-too_many : n < k → bad_from n 0 all.lines ≡ Some (k + 2)
    read-too_many h = read-bad (ap (λ (t : Bool). t && is_some (corner_of_line line)) (lt-leb k n h))

  module _ (rest : List ℕ) (e : left ≡ record { lines = []; rest = rest }) where
    pub read-whole : n < k → bad_from n 0 all.lines ≡ None
    read-whole h = so_far.bad ∙ ap (λ (s : Section). bad_from n k s.lines) e ∙ rw (eq-eqb k (n + 1) (omega (arith, h, so_far.few))) refl

    pub read-missing : k ≤ n → bad_from n 0 all.lines ≡ Some (k + 2)
    read-missing h = so_far.bad ∙ ap (λ (s : Section). bad_from n k s.lines) e ∙ rw (ne_eqb k (n + 1) (λ same. omega (arith, h, same))) refl

    pub read-path : path ≡ filter_map corner_of_line all.lines
    read-path = sym (so_far.corners ∙ ap (λ (s : Section). path ++ filter_map corner_of_line s.lines) e ∙ append-nil path)

    pub read-rest : rest ≡ all.rest
    read-rest = sym (so_far.rest ∙ ap (λ (s : Section). s.rest) e)
