-- How many numbers a caller has not drawn.
use Rattle.std.proofs.Common.{◌≡◌, ℕ, ◌<◌, ◌≤◌, Bool, true, false, cond, List, [], ◌∷◌, ◌++◌, refl, sym, ap, ◌∙◌, subst, arith, inl, inr}
use Rattle.std.specs.Prelude.{Option, ◌==◌, not, count_by}
use Rattle.std.proofs.lemmas.Bool.{or_left, true≢false}
use Rattle.std.proofs.lemmas.List.Folds.{list_any-append}
use Rattle.std.proofs.lemmas.List.Sums.{sum_by-cons}
use Rattle.tl_lists.specs.Lists.{upto}
use Rattle.tl_lists.proofs.Counts.{count_by-passes, count_by-fails}
use Rattle.tl_lists.proofs.Members.{In, In-range}
use Rattle.tl_board.specs.declared.views.CallerView.{CallerView}
use Rattle.tl_board.specs.Board.{is_member}
use Rattle.tl_board.specs.Steps.{after_draw, after_post}
use Rattle.tl_board.proofs.Known.{posted_last}

abbrev pub is_undrawn : {J : Type 0} → CallerView J → ℕ → Bool
is_undrawn c n = not (is_member c.drawn n)

abbrev pub undrawn : {J : Type 0} → CallerView J → ℕ
undrawn c = count_by (is_undrawn c) (upto c.count)

-- where each that passes the one test passes the other, fails more pass it
count_by-le : (p q : ℕ → Bool) (xs : List ℕ) → ((k : ℕ) → q k ≡ true → p k ≡ true) → count_by q xs ≤ count_by p xs
count_by-le p q [] each = omega arith
count_by-le p q (x ∷ xs) each = let a = sum_by-cons (λ y. cond (p y) 1 0) x xs in let b = sum_by-cons (λ y. cond (q y) 1 0) x xs in
    let here = at_one (q x) (p x) (each x) in let more = count_by-le p q xs each in omega (arith, a, b, here, more)
  where
    at_one : (s t : Bool) → (s ≡ true → t ≡ true) → cond s 1 0 ≤ cond t 1 0
    at_one false t h = omega arith
    at_one true t h = subst (λ b. 1 ≤ cond b 1 0) (sym (h refl)) (omega arith)

-- and fewer do where one in the list passes the other alone
count_by-lt : (p q : ℕ → Bool) (n : ℕ) (xs : List ℕ) → ((k : ℕ) → q k ≡ true → p k ≡ true) → p n ≡ true → q n ≡ false → In n xs → count_by q xs < count_by p xs
count_by-lt p q n [] each passes fails there = absurd there
count_by-lt p q n (x ∷ xs) each passes fails (inl e) =
    let a = count_by-passes p x xs (ap p (sym e) ∙ passes) in let b = count_by-fails q x xs (ap q (sym e) ∙ fails) in let more = count_by-le p q xs each in omega (arith, a, b, more)
count_by-lt p q n (x ∷ xs) each passes fails (inr there) = let a = sum_by-cons (λ y. cond (p y) 1 0) x xs in let b = sum_by-cons (λ y. cond (q y) 1 0) x xs in
    let here = count_by-le p q (x ∷ []) each in let one = sum_by-cons (λ y. cond (p y) 1 0) x [] in let other = sum_by-cons (λ y. cond (q y) 1 0) x [] in
    let more = count_by-lt p q n xs each passes fails there in omega (arith, a, b, here, one, other, more)

-- A number that is drawn is one that wasn't, and a post draws none.
pub undrawn-less : {J : Type 0} (before between after : CallerView (Option J)) (n m : ℕ) → n < before.count → is_member before.drawn n ≡ false → between ≡ after_draw before n → after ≡ after_post between m
    → undrawn after < undrawn before
undrawn-less before between after n m near new e f = let g : after ≡ after_post (after_draw before n) m = f ∙ ap (λ v. after_post v m) e in
    subst (λ (v : _). undrawn v < undrawn before) (sym g) (count_by-lt (is_undrawn before) (is_undrawn (after_draw before n)) n (upto before.count) fewer (ap not new) (ap not (posted_last before.drawn n)) (In-range n 0 before.count (omega arith) (omega (arith, near))))
  where
    fewer : (k : ℕ) → not (is_member (before.drawn ++ n ∷ []) k) ≡ true → not (is_member before.drawn k) ≡ true
    fewer k h = by_test (is_member before.drawn k) refl
      where
        by_test : (b : Bool) → is_member before.drawn k ≡ b → not (is_member before.drawn k) ≡ true
        by_test false i = ap not i
        by_test true i = absurd (true≢false (sym h ∙ ap not (list_any-append (λ x. x == k) before.drawn (n ∷ []) ∙ or_left (is_member before.drawn k) (is_member (n ∷ []) k) i)))
