-- Histories of a board: one that is lawful, and some near it that aren't.
use Rattle.std.proofs.Common.{◌≡◌, ℕ, zero, suc, ◌+◌, ◌<◌, Bool, true, false, List, [], ◌∷◌, refl, subst, arith, Some, None, inl, inr}
use Rattle.std.specs.Prelude.{Option, IsTrue, IsFalse, ◌↔◌, ◌⊎◌, slice_get, slice_index_or, flat_map, ◌==◌}
use Rattle.std.proofs.lemmas.Bool.{eqb-true}
use Rattle.std.proofs.lemmas.List.Elements.{All-nil, All-cons}
use Rattle.std.proofs.lemmas.Option.{same_Some}
use Rattle.tl_board.specs.declared.views.CallerView.{CallerView}
use Rattle.tl_board.specs.declared.caller.Left.{Left}
use Rattle.tl_board.specs.declared.caller.Left.TheVariants.{Unclaimed, Posted, Taken}
use Rattle.tl_board.specs.Calls.{IsLeftOf, IsClosed}
use Rattle.tl_board.specs.Board.{IsLawfulHistory, AreOfOneBoard, is_member}

abbrev one : CallerView ℕ
one = record { callers = 2; index = 0; job = 0; count = 3; drawn = 0 ∷ 2 ∷ []; posted = 0 ∷ []; taken = 1 ∷ []; seen = 1 ∷ []; past = None; last = Some (1, 1); reads = 1 }

abbrev two : CallerView ℕ
two = record { callers = 2; index = 1; job = 0; count = 3; drawn = 1 ∷ []; posted = 1 ∷ []; taken = []; seen = []; past = Some 3; last = None; reads = 0 }

-- a number below 3 is one of three, and one from 3 on is none of them
below_three : (P : ℕ → Type 0) → P 0 → P 1 → P 2 → (n : ℕ) → n < 3 → P n
below_three P a b c zero h = a
below_three P a b c (suc zero) h = b
below_three P a b c (suc (suc zero)) h = c
below_three P a b c (suc (suc (suc n))) h = absurd (omega (arith, h))

member_one : (k n : ℕ) → is_member (k ∷ []) n ≡ true → k ≡ n
member_one k n e = go (k == n) refl e
  where
    go : (t : Bool) → (k == n) ≡ t → is_member (k ∷ []) n ≡ true → k ≡ n
    go true h f = eqb-true k n h
    go false h f = absurd (clash k n h f)
      where
        clash : (k n : ℕ) → (k == n) ≡ false → is_member (k ∷ []) n ≡ true → ⊥
        clash k n h f = cc (h, f)

abbrev the_words : List ℕ
the_words = 1 ∷ 3 ∷ 0 ∷ []

lawful : IsLawfulHistory (one ∷ two ∷ []) 3 4 the_words
lawful = record {
  word_count = refl;
  words_known = refl;
  views_fit = refl;
  draws = record { moves = (1, 2) ∷ []; below = (omega arith, omega arith, tt); is = refl };
  posts_drawn = refl;
  posts_once = refl;
  posted = below_three _ ((λ e. cc e), λ e. cc e) ((λ e. cc e), λ e. cc e) ((λ e. refl), λ e. refl);
  takes_once = refl;
  taken = takes;
  seen = sees;
  past = λ e. refl;
}
  where
    takes : (n : ℕ) → IsTrue (is_member (flat_map (λ c. c.taken) (one ∷ two ∷ [])) n) ↔ ((slice_index_or the_words n 0 ≡ 2) ⊎ (slice_index_or the_words n 0 ≡ 3))
    takes zero = ((λ e. cc e), λ e. elim e [ inl f ↦ cc f | inr f ↦ cc f ])
    takes (suc zero) = ((λ e. inr refl), λ e. refl)
    takes (suc (suc zero)) = ((λ e. cc e), λ e. elim e [ inl f ↦ cc f | inr f ↦ cc f ])
    takes (suc (suc (suc n))) = ((λ e. absurd (off n e)), λ e. elim e [ inl f ↦ cc f | inr f ↦ cc f ])
      where
        off : (n : ℕ) → is_member (flat_map (λ c. c.taken) (one ∷ two ∷ [])) (suc (suc (suc n))) ≡ true → ⊥
        off n e = let h = member_one 1 (suc (suc (suc n))) e in omega (arith, h)

    sees : (n : ℕ) → IsTrue (is_member (flat_map (λ c. c.seen) (one ∷ two ∷ [])) n) → slice_index_or the_words n 0 ≡ 0 → ⊥
    sees zero e f = cc e
    sees (suc zero) e f = cc f
    sees (suc (suc zero)) e f = cc e
    sees (suc (suc (suc n))) e f = let h = member_one 1 (suc (suc (suc n))) e in absurd (omega (arith, h))

-- a word 0 of a posted number; a word 1 of one that isn't posted
unposted : IsLawfulHistory (one ∷ two ∷ []) 3 4 (0 ∷ 3 ∷ 0 ∷ []) → ⊥
unposted l = cc ((l.posted 0 (omega arith)).0 refl)

too_soon : IsLawfulHistory (one ∷ two ∷ []) 3 4 (1 ∷ 3 ∷ 1 ∷ []) → ⊥
too_soon l = cc ((l.posted 2 (omega arith)).1 refl)

-- a word 1 of a taken number; a word 2 of one that isn't taken; a word 4
untaken : IsLawfulHistory (one ∷ two ∷ []) 3 4 (1 ∷ 1 ∷ 0 ∷ []) → ⊥
untaken l = elim ((l.taken 1).0 refl) [ inl f ↦ cc f | inr f ↦ cc f ]

retaken : IsLawfulHistory (one ∷ two ∷ []) 3 4 (2 ∷ 3 ∷ 0 ∷ []) → ⊥
retaken l = cc ((l.taken 0).1 (inl refl))

unknown : IsLawfulHistory (one ∷ two ∷ []) 3 4 (4 ∷ 3 ∷ 0 ∷ []) → ⊥
unknown l = cc l.words_known

-- a past where the counter is below the count
early_past : IsLawfulHistory (one ∷ two ∷ []) 3 2 the_words → ⊥
early_past l = let e : 2 ≡ 3 = l.past refl in omega (arith, e)

-- The two are the callers of one board.
of_one_board : AreOfOneBoard 0 (one ∷ two ∷ [])
of_one_board = record { one_job = All-cons (λ c. c.job ≡ 0) one (two ∷ []) refl (All-cons (λ c. c.job ≡ 0) two [] refl (All-nil (λ c. c.job ≡ 0))); all_callers = refl; indexes_once = refl; lasts_seen = refl }

-- What a lawful history leaves open: two callers with one index and jobs of their own, and a last that no read made.
abbrev odd : CallerView ℕ
odd = record { callers = 9; index = 0; job = 77; count = 3; drawn = 1 ∷ []; posted = 1 ∷ []; taken = []; seen = []; past = Some 3; last = Some (8, 3); reads = 0 }

left_open : IsLawfulHistory (one ∷ odd ∷ []) 3 4 the_words
left_open = record {
  word_count = refl;
  words_known = refl;
  views_fit = refl;
  draws = record { moves = (1, 2) ∷ []; below = (omega arith, omega arith, tt); is = refl };
  posts_drawn = refl;
  posts_once = refl;
  posted = below_three _ ((λ e. cc e), λ e. cc e) ((λ e. cc e), λ e. cc e) ((λ e. refl), λ e. refl);
  takes_once = refl;
  taken = lawful.taken;
  seen = lawful.seen;
  past = λ e. refl;
}

-- The callers of a board have one job, are as many as each says, have an index each, and read what they saw last.
other_job : (job : ℕ) → AreOfOneBoard job (one ∷ record two { job = 77 } ∷ []) → ⊥
other_job job b = let e : 0 ≡ job = b.one_job 0 one (omega arith) in let f : 77 ≡ job = b.one_job 1 one (omega arith) in omega (arith, e, f)

one_missing : AreOfOneBoard 0 (one ∷ []) → ⊥
one_missing b = cc b.all_callers

one_index : AreOfOneBoard 0 (one ∷ record two { index = 0 } ∷ []) → ⊥
one_index b = cc b.indexes_once

unread_last : AreOfOneBoard 0 (one ∷ record two { last = Some (0, 3) } ∷ []) → ⊥
unread_last b = cc b.lasts_seen

-- ---- a board of one number that its one caller drew and posted, when it is closed. A piece is a job and a sum.
abbrev job_of : ℕ × ℕ → ℕ
job_of p = p.0

abbrev filled_for : ℕ × ℕ → ℕ → Type 0
filled_for p n = p.1 ≡ p.0 + n

abbrev alone : CallerView (Option ℕ)
alone = record { callers = 1; index = 0; job = Some 5; count = 1; drawn = 0 ∷ []; posted = 0 ∷ []; taken = []; seen = []; past = Some 1; last = None; reads = 0 }

abbrev the_word : List ℕ
the_word = 1 ∷ []

abbrev Closes : List (Left (ℕ × ℕ)) → Type 0
Closes left = IsClosed job_of filled_for (alone ∷ []) 1 left

closed : Closes (Posted (5, 5) ∷ [])
closed = record {
  counter = 2;
  words = the_word;
  job = 5;
  lawful = record {
    word_count = refl;
    words_known = refl;
    views_fit = refl;
    draws = record { moves = []; below = tt; is = refl };
    posts_drawn = refl;
    posts_once = refl;
    posted = posted;
    takes_once = refl;
    taken = taken;
    seen = λ n e f. cc e;
    past = λ e. refl;
  };
  one_board = record { one_job = All-cons (λ c. c.job ≡ Some 5) alone [] refl (All-nil (λ c. c.job ≡ Some 5)); all_callers = refl; indexes_once = refl; lasts_seen = refl };
  all_posted = refl;
  one_each = refl;
  each_left = each;
}
  where
    posted : (n : ℕ) → n < 1 → (slice_index_or the_word n 0 ≡ 0) ↔ IsFalse (is_member (flat_map (λ c. c.posted) (alone ∷ [])) n)
    posted zero near = ((λ e. cc e), λ e. cc e)
    posted (suc n) near = absurd (omega (arith, near))

    taken : (n : ℕ) → IsTrue (is_member (flat_map (λ c. c.taken) (alone ∷ [])) n) ↔ ((slice_index_or the_word n 0 ≡ 2) ⊎ (slice_index_or the_word n 0 ≡ 3))
    taken zero = ((λ e. cc e), λ e. elim e [ inl f ↦ cc f | inr f ↦ cc f ])
    taken (suc n) = ((λ e. cc e), λ e. elim e [ inl f ↦ cc f | inr f ↦ cc f ])

    each : (n : ℕ) (l : Left (ℕ × ℕ)) → slice_get (Posted (5, 5) ∷ []) n ≡ Some l → IsLeftOf job_of filled_for (alone ∷ []) n l
    each zero l e = subst (IsLeftOf job_of filled_for (alone ∷ []) 0) (same_Some (Posted (5, 5)) l e) (refl, refl, All-cons (λ c. c.job ≡ Some 5) alone [] refl (All-nil (λ c. c.job ≡ Some 5)), refl)
    each (suc n) l e = cc e

-- It leaves what was posted, filled for its number and of the job, and no more.
not_drawn : Closes (Unclaimed (5, 5) ∷ []) → ⊥
not_drawn c = cc (c.each_left 0 (Unclaimed (5, 5)) refl).0

not_taken : Closes (Taken ∷ []) → ⊥
not_taken c = cc (c.each_left 0 Taken refl)

not_filled : Closes (Posted (5, 6) ∷ []) → ⊥
not_filled c = cc (c.each_left 0 (Posted (5, 6)) refl).3

not_of_the_job : Closes (Posted (6, 6) ∷ []) → ⊥
not_of_the_job c = cc ((c.each_left 0 (Posted (6, 6)) refl).2 0 alone (omega arith))

not_alone : Closes (Posted (5, 5) ∷ Posted (5, 6) ∷ []) → ⊥
not_alone c = cc c.one_each
