-- Sums over the callers that seats stand for, when one seat's view changes.
use Rattle.std.proofs.Common.{◌≡◌, ◌≢◌, ℕ, zero, suc, ◌+◌, ◌-◌, ◌<◌, ◌≤◌, Bool, true, false, cond, List, [], ◌∷◌, ◌++◌, length, set, get_or, refl, sym, ap, ◌∙◌, arith, eq-eqb, ne_eqb}
use mathlib.Core.Option.{some, some-injective, some-ne-none}
use lib.ListN.{get_elem?}
use Rattle.std.specs.Prelude.{Option, ◌==◌, sum_by}
use Rattle.std.proofs.lemmas.List.Sums.{sum_by-cons, sum_by_push}
use Rattle.std.proofs.lemmas.Bool.{or_from, or_left, or_right, true≢false}
use Rattle.tl_board.specs.Board.{is_member}
use Rattle.tl_board.specs.declared.views.CallerView.{CallerView}
use Rattle.tl_board.specs.Hands.{Hands, hand, hit, times, total}

module _ {A : Type 0} (g : A → ℕ) where
  pub sum_set : (l : List A) (i : ℕ) (v w : A) → get_elem? l i ≡ some v → sum_by g (set l i w) + g v ≡ sum_by g l + g w
  sum_set [] i v w e = absurd (some-ne-none v (sym e))
  sum_set (x ∷ xs) zero v w e = omega (arith, sum_by-cons g w xs, sum_by-cons g x xs, ap g (some-injective x v e))
  sum_set (x ∷ xs) (suc i) v w e = omega (arith, sum_by-cons g x (set xs i w), sum_by-cons g x xs, sum_set xs i v w e)

  pub sum_at : (l : List A) (i : ℕ) (v : A) → get_elem? l i ≡ some v → g v ≤ sum_by g l
  sum_at [] i v e = absurd (some-ne-none v (sym e))
  sum_at (x ∷ xs) zero v e = omega (arith, sum_by-cons g x xs, ap g (some-injective x v e))
  sum_at (x ∷ xs) (suc i) v e = omega (arith, sum_by-cons g x xs, sum_at xs i v e)

-- smaller terms have a smaller sum
pub sum_le : {A : Type 0} (f g : A → ℕ) (l : List A) → ((i : ℕ) (v : A) → get_elem? l i ≡ some v → f v ≤ g v) → sum_by f l ≤ sum_by g l
sum_le f g [] h = omega arith
sum_le f g (x ∷ xs) h = omega (arith, sum_by-cons f x xs, sum_by-cons g x xs, h 0 x refl, sum_le f g xs (λ i v e. h (suc i) v e))

pub hit-same : (n : ℕ) → hit n n ≡ 1
hit-same n = ap (λ b. cond b 1 0) (eq-eqb n n refl)

pub hit-other : (x n : ℕ) → x ≢ n → hit x n ≡ 0
hit-other x n ne = ap (λ b. cond b 1 0) (ne_eqb x n ne)

pub times-more : (m : ℕ) (xs : List ℕ) (n : ℕ) → times m (xs ++ n ∷ []) ≡ times m xs + hit n m
times-more m xs n = sum_by_push (λ x. hit x m) xs n

pub times-same : (xs : List ℕ) (n : ℕ) → times n (xs ++ n ∷ []) ≡ times n xs + 1
times-same xs n = omega (arith, times-more n xs n, hit-same n)

pub times-other : (m : ℕ) (xs : List ℕ) (n : ℕ) → n ≢ m → times m (xs ++ n ∷ []) ≡ times m xs
times-other m xs n ne = omega (arith, times-more m xs n, hit-other n m ne)

module _ {J : Type 0} where
  -- a seat with one caller stands for its hand
  pub hand-alone : (hs : Hands J) → length hs ≡ 1 → hs ≡ hand hs ∷ []
  hand-alone [] e = absurd (omega (arith, e))
  hand-alone (c ∷ []) e = refl
  hand-alone (c ∷ d ∷ cs) e = absurd (omega (arith, e))

  -- one caller's view changes
  pub total_set : (f : CallerView (Option J) → ℕ) (views : List (Hands J)) (id : ℕ) (c c' : CallerView (Option J)) → get_elem? views id ≡ some (c ∷ []) → total f (set views id (c' ∷ [])) + f c ≡ total f views + f c'
  total_set f views id c c' at = omega (arith, sum_set (λ hs. sum_by f hs) views id (c ∷ []) (c' ∷ []) at)

  pub total_same : (f : CallerView (Option J) → ℕ) (views : List (Hands J)) (id : ℕ) (c c' : CallerView (Option J)) → get_elem? views id ≡ some (c ∷ []) → f c' ≡ f c → total f (set views id (c' ∷ [])) ≡ total f views
  total_same f views id c c' at same = omega (arith, total_set f views id c c' at, same)

  pub total_more : (f : CallerView (Option J) → ℕ) (views : List (Hands J)) (id : ℕ) (c c' : CallerView (Option J)) → get_elem? views id ≡ some (c ∷ []) → f c' ≡ f c + 1 → total f (set views id (c' ∷ [])) ≡ total f views + 1
  total_more f views id c c' at more = omega (arith, total_set f views id c c' at, more)

  pub total_at : (f : CallerView (Option J) → ℕ) (views : List (Hands J)) (id : ℕ) (c : CallerView (Option J)) → get_elem? views id ≡ some (c ∷ []) → f c ≤ total f views
  total_at f views id c at = omega (arith, sum_at (λ hs. sum_by f hs) views id (c ∷ []) at)

-- a number that stands nowhere in a list is no member of it, and a member stands there
pub member-false : (n : ℕ) (xs : List ℕ) → times n xs ≡ 0 → is_member xs n ≡ false
member-false n [] e = refl
member-false n (x ∷ xs) e = by_test (x == n) refl (member-false n xs)
  where
    by_test : (b : Bool) → (x == n) ≡ b → (times n xs ≡ 0 → is_member xs n ≡ false) → is_member (x ∷ xs) n ≡ false
    by_test true h later = absurd (let one : hit x n ≡ 1 = ap (λ b. cond b 1 0) h in omega (arith, sum_by-cons (λ y. hit y n) x xs, one, e))
    by_test false h later = or_from (x == n) (is_member xs n) h (later (omega (arith, sum_by-cons (λ y. hit y n) x xs, e)))

pub member-true : (n : ℕ) (xs : List ℕ) → 0 < times n xs → is_member xs n ≡ true
member-true n [] h = absurd (omega (arith, h))
member-true n (x ∷ xs) h = by_test (x == n) refl (member-true n xs)
  where
    by_test : (b : Bool) → (x == n) ≡ b → (0 < times n xs → is_member xs n ≡ true) → is_member (x ∷ xs) n ≡ true
    by_test true e later = or_left (x == n) (is_member xs n) e
    by_test false e later = or_right (x == n) (is_member xs n) (later (let none_here : hit x n ≡ 0 = ap (λ b. cond b 1 0) e in omega (arith, sum_by-cons (λ y. hit y n) x xs, none_here, h)))

pub times-member : (n : ℕ) (xs : List ℕ) → is_member xs n ≡ true → 0 < times n xs
times-member n xs e = by_count (times n xs) refl
  where
    by_count : (k : ℕ) → times n xs ≡ k → 0 < times n xs
    by_count zero h = absurd (true≢false (sym e ∙ member-false n xs h))
    by_count (suc k) h = omega (arith, h)

pub times-none : (n : ℕ) (xs : List ℕ) → is_member xs n ≡ false → times n xs ≡ 0
times-none n xs e = by_count (times n xs) refl
  where
    by_count : (k : ℕ) → times n xs ≡ k → times n xs ≡ 0
    by_count zero h = h
    by_count (suc k) h = absurd (true≢false (sym (member-true n xs (omega (arith, h))) ∙ e))

module _ {J : Type 0} where
  -- where seats stand for no caller, there is nothing to add up
  pub total_none : (f : CallerView (Option J) → ℕ) (views : List (Hands J)) → total (λ _. 1) views ≡ 0 → total f views ≡ 0
  total_none f [] e = refl
  total_none f ([] ∷ vs) e = let a = sum_by-cons (λ (hs : Hands J). sum_by f hs) [] vs in let b = total_none f vs (omega (arith, sum_by-cons (λ (hs : Hands J). sum_by (λ _. 1) hs) [] vs, e)) in omega (arith, a, b)
  total_none f ((c ∷ cs) ∷ vs) e = absurd (let a = sum_by-cons (λ (hs : Hands J). sum_by (λ _. 1) hs) (c ∷ cs) vs in let b = sum_by-cons (λ (_ : CallerView (Option J)). 1) c cs in omega (arith, a, b, e))

  -- a seat that stands for all callers tells all
  pub total_all : (f : CallerView (Option J) → ℕ) (views : List (Hands J)) (id : ℕ) (hs : Hands J) → get_elem? views id ≡ some hs → total (λ _. 1) views ≡ sum_by (λ _. 1) hs → total f views ≡ sum_by f hs
  total_all f views id hs at all =
      let a = sum_set (λ (v : Hands J). sum_by (λ _. 1) v) views id hs [] at in let b = sum_set (λ (v : Hands J). sum_by f v) views id hs [] at in
      let z = total_none f (set views id []) (omega (arith, a, all)) in omega (arith, b, z)

-- what stands at a place is below the length, and is read there
pub at_below : {A : Type 0} (l : List A) (i : ℕ) (a : A) → get_elem? l i ≡ some a → i < length l
at_below [] i a e = absurd (some-ne-none a (sym e))
at_below (x ∷ xs) zero a e = omega arith
at_below (x ∷ xs) (suc i) a e = let h = at_below xs i a e in omega (arith, h)

pub get_or_at : {A : Type 0} (l : List A) (i : ℕ) (a : A) → get_elem? l i ≡ some a → get_or l i a ≡ a
get_or_at [] i a e = refl
get_or_at (x ∷ xs) zero a e = some-injective x a e
get_or_at (x ∷ xs) (suc i) a e = get_or_at xs i a e

pub less-one : (n : ℕ) → n ≡ n + 1 - 1
less-one n = omega arith

pub set_set : {A : Type 0} (l : List A) (i : ℕ) (a b : A) → set (set l i a) i b ≡ set l i b
set_set [] i a b = refl
set_set (x ∷ xs) zero a b = refl
set_set (x ∷ xs) (suc i) a b = ap (λ ys. x ∷ ys) (set_set xs i a b)

pub hit_one : (x n : ℕ) → hit x n ≤ 1
hit_one x n = by_test (x == n)
  where
    by_test : (b : Bool) → cond b 1 0 ≤ 1
    by_test true = omega arith
    by_test false = omega arith
