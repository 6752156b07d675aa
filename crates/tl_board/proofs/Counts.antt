-- Lists of numbers, by how often each number stands in them.
use Rattle.std.proofs.Common.{◌≡◌, ℕ, zero, suc, ◌+◌, ◌<◌, ◌≤◌, ⊎_elim, Bool, true, false, cond, List, [], ◌∷◌, ◌++◌, length, map, refl, sym, ap, ◌∙◌, subst, arith, add-one}
use mathlib.Core.Logic.{dite}
use native.Mathlib.Decide.{ℕ_discrete}
use Rattle.std.specs.Prelude.{◌==◌, sum_by, flat_map, IsPermutation, not}
use Rattle.std.specs.List.{list_any, list_all}
use Rattle.std.proofs.lemmas.Bool.{and_from, or_from, or_cases, eqb-true, ne_eqb, eq-eqb, or_left, or_right, not_from_false, cases_lt, true≢false}
use Rattle.std.proofs.lemmas.List.Sums.{sum_by-cons, sum_by-append}
use Rattle.std.proofs.lemmas.List.Sorted.{IsPermutation-refl, IsPermutation-sym, IsPermutation-cons, IsPermutation-trans, IsPermutation-middle}
use Rattle.tl_lists.specs.Lists.{upto, distinct}
use Rattle.tl_lists.proofs.Members.{upto_more}
use Rattle.tl_board.specs.Board.{is_member}
use Rattle.tl_board.specs.Hands.{hit, times}
use Rattle.tl_board.specs.Rule.{below}
use Rattle.tl_board.proofs.Totals.{hit-same, hit-other, times-more, member-true}
use Rattle.tl_board.proofs.Moves.{below-true, below-false}

times-cons : (n x : ℕ) (xs : List ℕ) → times n (x ∷ xs) ≡ hit x n + times n xs
times-cons n x xs = sum_by-cons (λ y. hit y n) x xs

times-append : (n : ℕ) (xs ys : List ℕ) → times n (xs ++ ys) ≡ times n xs + times n ys
times-append n xs ys = sum_by-append (λ y. hit y n) xs ys

pub times-flat_map : {A : Type 0} (f : A → List ℕ) (n : ℕ) (xs : List A) → times n (flat_map f xs) ≡ sum_by (λ x. times n (f x)) xs
times-flat_map f n [] = refl
times-flat_map f n (x ∷ xs) = let a = times-append n (f x) (flat_map f xs) in let b = sum_by-cons (λ y. times n (f y)) x xs in let more = times-flat_map f n xs in omega (arith, a, b, more)

pub times-map : {A : Type 0} (f : A → ℕ) (n : ℕ) (xs : List A) → times n (map f xs) ≡ sum_by (λ x. hit (f x) n) xs
times-map f n [] = refl
times-map f n (x ∷ xs) = let a = times-cons n (f x) (map f xs) in let b = sum_by-cons (λ y. hit (f y) n) x xs in let more = times-map f n xs in omega (arith, a, b, more)

pub ones : {A : Type 0} (xs : List A) → sum_by (λ _. 1) xs ≡ length xs
ones [] = refl
ones {A} (x ∷ xs) = let a = sum_by-cons (λ (_ : A). 1) x xs in let more = ones xs in omega (arith, a, more)

-- each number below n stands once among those below n
pub times-upto : (m n : ℕ) → times m (upto n) ≡ below m n
times-upto m zero = sym (below-false m 0 (omega arith))
times-upto m (suc n) = let longer = ap (times m) (ap upto (sym (add-one n)) ∙ upto_more n) in let a = times-more m (upto n) n in let less = times-upto m n in dite (ℕ_discrete n m)
    (λ same. let h : hit n m ≡ 1 = ap (λ (k : ℕ). hit n k) (sym same) ∙ hit-same n in let b = below-false m n (omega (arith, same)) in let c = below-true m (suc n) (omega (arith, same)) in omega (arith, longer, a, less, h, b, c))
    (λ ne. let h = hit-other n m ne in ⊎_elim (λ lt. let b = below-true m n lt in let c = below-true m (suc n) (omega (arith, lt)) in omega (arith, longer, a, less, h, b, c))
    (λ ge. let b = below-false m n ge in let c = below-false m (suc n) (omega (arith, ge, ne)) in omega (arith, longer, a, less, h, b, c)) (cases_lt m n))

split_at_member : (n : ℕ) (xs : List ℕ) → is_member xs n ≡ true → (front : List ℕ) × (back : List ℕ) × (xs ≡ front ++ n ∷ back)
split_at_member n [] e = absurd (true≢false (sym e))
split_at_member n (x ∷ xs) e = ⊎_elim (λ here. ([], xs, ap (λ k. k ∷ xs) (eqb-true x n here))) (λ there. let parts = split_at_member n xs there in (x ∷ parts.0, parts.1, ap (λ zs. x ∷ zs) parts.2)) (or_cases (x == n) (is_member xs n) e)

-- lists in which each number stands equally often have the same elements
pub same_elements : (xs ys : List ℕ) → ((n : ℕ) → times n xs ≡ times n ys) → IsPermutation xs ys
same_elements [] [] same = IsPermutation-refl []
same_elements [] (y ∷ ys) same = absurd (let e = same y in let a = times-cons y y ys in let h = hit-same y in omega (arith, e, a, h))
same_elements (x ∷ xs) ys same = let parts = split_at_member x ys (member-true x ys (let e = same x in let a = times-cons x x xs in let h = hit-same x in omega (arith, e, a, h))) in let front = parts.0 in let back = parts.1 in
    let less : (n : ℕ) → times n xs ≡ times n (front ++ back) = λ n. (let e = same n in let a = times-cons n x xs in let b = ap (times n) parts.2 in let c = times-append n front (x ∷ back) in let d = times-cons n x back in let f = times-append n front back in omega (arith, e, a, b, c, d, f)) in
    subst (IsPermutation (x ∷ xs)) (sym parts.2) (IsPermutation-trans (x ∷ xs) (x ∷ (front ++ back)) (front ++ x ∷ back) (IsPermutation-cons x xs (front ++ back) (same_elements xs (front ++ back) less)) (IsPermutation-sym (front ++ x ∷ back) (x ∷ (front ++ back)) (IsPermutation-middle front x back)))

none_same : (x : ℕ) (xs : List ℕ) → times x xs ≡ 0 → list_any (◌==◌ x) xs ≡ false
none_same x [] none = refl
none_same x (y ∷ ys) none = let a = times-cons x y ys in
    or_from (x == y) (list_any (◌==◌ x) ys) (ne_eqb x y (λ e. let h : hit y x ≡ 1 = ap (λ (k : ℕ). hit k x) (sym e) ∙ hit-same x in omega (arith, a, none, h))) (none_same x ys (omega (arith, a, none)))

-- where no number stands twice, all are distinct
pub distinct_from : (xs : List ℕ) → ((n : ℕ) → times n xs ≤ 1) → distinct ◌==◌ xs ≡ true
distinct_from [] few = refl
distinct_from (x ∷ xs) few = and_from (not (list_any (◌==◌ x) xs)) (distinct ◌==◌ xs)
    (not_from_false (list_any (◌==◌ x) xs) (none_same x xs (let e = few x in let a = times-cons x x xs in let h = hit-same x in omega (arith, e, a, h))))
    (distinct_from xs (λ n. let e = few n in let a = times-cons n x xs in omega (arith, e, a)))

-- a test that each member passes
pub all_members : (p : ℕ → Bool) (xs : List ℕ) → ((n : ℕ) → is_member xs n ≡ true → p n ≡ true) → list_all p xs ≡ true
all_members p [] each = refl
all_members p (x ∷ xs) each = and_from (p x) (list_all p xs) (each x (or_left (x == x) (is_member xs x) (eq-eqb x x refl))) (all_members p xs (λ n e. each n (or_right (x == n) (is_member xs n) e)))

-- one that passes is counted
pub any_counted : {A : Type 0} (p : A → Bool) (xs : List A) → list_any p xs ≡ true → 0 < sum_by (λ x. cond (p x) 1 0) xs
any_counted p [] e = absurd (true≢false (sym e))
any_counted p (x ∷ xs) e = let count : Bool → ℕ = λ b. cond b 1 0 in let a = sum_by-cons (λ y. count (p y)) x xs in
    ⊎_elim (λ here. let one = ap count here in omega (arith, a, one)) (λ there. let more = any_counted p xs there in omega (arith, a, more)) (or_cases (p x) (list_any p xs) e)
