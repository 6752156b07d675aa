-- What a caller's own fields say, after each of its steps.
use Rattle.std.proofs.Common.{◌≡◌, ℕ, ◌<◌, ◌≤◌, ⊎_elim, Bool, true, false, cond, List, [], ◌∷◌, ◌++◌, length, map, refl, sym, ap, ◌∙◌, subst, arith}
use Rattle.std.specs.Prelude.{Option, None, ◌==◌, nat_lt, not, filter}
use Rattle.std.specs.List.{list_all}
use Rattle.std.proofs.lemmas.Bool.{lt-ltb, and_from, or_left, or_right, or_cases, eqb-true, ltb-true, eq-eqb, and_parts, true≢false}
use Rattle.std.proofs.lemmas.List.Folds.{list_all-append, list_any-append}
use Rattle.tl_lists.proofs.Positions.{filter-filter}
use Rattle.std.proofs.lemmas.List.Elements.{filter-append}
use Rattle.atomic_table.specs.Table.{Me, rest}
use Rattle.tl_board.specs.declared.views.CallerView.{CallerView}
use Rattle.tl_board.specs.Hands.{Hands, hand, unposted, slots_out, IsCaller}
use Rattle.tl_board.specs.Steps.{DrawsBelow, after_draw, after_past, after_post}
use Rattle.tl_board.specs.Board.{is_member}

member-filter : (p : ℕ → Bool) (n : ℕ) (xs : List ℕ) → is_member xs n ≡ true → p n ≡ true → is_member (filter p xs) n ≡ true
member-filter p n [] e q = e
member-filter p n (x ∷ xs) e q = ⊎_elim (λ here. let same : x ≡ n = eqb-true x n here in subst (λ b. is_member (cond b (x ∷ filter p xs) (filter p xs)) n ≡ true) (sym (ap p same ∙ q)) (or_left (x == n) (is_member (filter p xs) n) here))
    (λ there. later (p x) (member-filter p n xs there q)) (or_cases (x == n) (is_member xs n) e)
  where
    later : (b : Bool) → is_member (filter p xs) n ≡ true → is_member (cond b (x ∷ filter p xs) (filter p xs)) n ≡ true
    later true h = or_right (x == n) (is_member (filter p xs) n) h
    later false h = h

only_member : (n : ℕ) (xs : List ℕ) → length xs ≤ 1 → is_member xs n ≡ true → xs ≡ n ∷ []
only_member n [] few e = cc e
only_member n (x ∷ []) few e = ⊎_elim (λ here. ap (λ k. k ∷ []) (eqb-true x n here)) (λ none_there. cc none_there) (or_cases (x == n) false e)
only_member n (x ∷ y ∷ ys) few e = absurd (omega (arith, few))

pub member-passes : (p : ℕ → Bool) (n : ℕ) (xs : List ℕ) → list_all p xs ≡ true → is_member xs n ≡ true → p n ≡ true
member-passes p n [] all e = cc e
member-passes p n (x ∷ xs) all e = let both = and_parts (p x) (list_all p xs) all in ⊎_elim (λ here. subst (λ k. p k ≡ true) (eqb-true x n here) both.0) (λ there. member-passes p n xs both.1 there) (or_cases (x == n) (is_member xs n) e)

-- what is not among more numbers is not among them
not-more : (xs : List ℕ) (n k : ℕ) → not (is_member (xs ++ n ∷ []) k) ≡ true → not (is_member xs k) ≡ true
not-more xs n k e = by_test (is_member xs k) refl
  where
    by_test : (b : Bool) → is_member xs k ≡ b → not (is_member xs k) ≡ true
    by_test false h = ap not h
    by_test true h = absurd (true≢false (sym e ∙ ap not (list_any-append (λ x. x == k) xs (n ∷ []) ∙ or_left (is_member xs k) (is_member (n ∷ []) k) h)))

pub posted_last : (xs : List ℕ) (n : ℕ) → is_member (xs ++ n ∷ []) n ≡ true
posted_last xs n = list_any-append (λ x. x == n) xs (n ∷ []) ∙ or_right (is_member xs n) (is_member (n ∷ []) n) (or_left (n == n) false (eq-eqb n n refl))

module _ {J : Type 0} where
  unposted-draw : (c : CallerView (Option J)) (n : ℕ) → is_member c.posted n ≡ false → unposted (after_draw c n) ≡ unposted c ++ n ∷ []
  unposted-draw c n e = filter-append (λ k. not (is_member c.posted k)) c.drawn (n ∷ []) ∙ ap (λ t. unposted c ++ cond (not t) (n ∷ []) []) e

  -- a caller with no claim out draws a number
  draw_known : (slots : ℕ) (hs : Hands J) (n : ℕ) → IsCaller slots false hs → unposted (hand hs) ≡ [] → n < slots → is_member (hand hs).posted n ≡ false → IsCaller slots false (after_draw (hand hs) n ∷ [])
  draw_known slots hs n is out few new = let u = unposted-draw (hand hs) n new in record {
    alone = refl;
    of_table = is.of_table;
    done_is = is.done_is;
    claims_out = omega (arith, ap length u, ap (λ xs. length (xs ++ n ∷ [])) out);
    drawn_below = list_all-append (λ k. nat_lt k slots) (hand hs).drawn (n ∷ []) ∙ and_from _ _ is.drawn_below (and_from (nat_lt n slots) true (lt-ltb n slots few) refl);
  }

  pub past_known : (slots : ℕ) (hs : Hands J) (n : ℕ) → IsCaller slots false hs → IsCaller slots true (after_past (hand hs) n ∷ [])
  past_known slots hs n is = record { alone = refl; of_table = is.of_table; done_is = refl; claims_out = is.claims_out; drawn_below = is.drawn_below }

  -- the one claim that is out
  pub claim_out : (slots : ℕ) (done : Bool) (hs : Hands J) (n : ℕ) → IsCaller slots done hs → is_member (hand hs).drawn n ≡ true → is_member (hand hs).posted n ≡ false → unposted (hand hs) ≡ n ∷ []
  claim_out slots done hs n is drawn new = only_member n (unposted (hand hs)) is.claims_out (member-filter (λ k. not (is_member (hand hs).posted k)) n (hand hs).drawn drawn (ap not new))

  pub number_below : (slots : ℕ) (done : Bool) (hs : Hands J) (n : ℕ) → IsCaller slots done hs → is_member (hand hs).drawn n ≡ true → n < slots
  number_below slots done hs n is drawn = ltb-true n slots (member-passes (λ k. nat_lt k slots) n (hand hs).drawn is.drawn_below drawn)

  unposted-post : (c : CallerView (Option J)) (n : ℕ) → unposted c ≡ n ∷ [] → unposted (after_post c n) ≡ []
  unposted-post c n out = let p : ℕ → Bool = λ k. not (is_member (c.posted ++ n ∷ []) k) in let q : ℕ → Bool = λ k. not (is_member c.posted k) in
      sym (filter-filter p q (λ k e. not-more c.posted n k e) c.drawn) ∙ (ap (filter p) out ∙ ap (λ b. cond (not b) (n ∷ []) []) (posted_last c.posted n))

  -- a caller posts its claim
  pub post_known : (slots : ℕ) (done : Bool) (hs : Hands J) (n : ℕ) → IsCaller slots done hs → unposted (hand hs) ≡ n ∷ [] → IsCaller slots done (after_post (hand hs) n ∷ [])
  post_known slots done hs n is out = record { alone = refl; of_table = is.of_table; done_is = is.done_is; claims_out = let e = ap length (unposted-post (hand hs) n out) in omega (arith, e); drawn_below = is.drawn_below }

  pub known_at : (slots slots' : ℕ) (done done' : Bool) (hs hs' : Hands J) → slots' ≡ slots → done' ≡ done → hs' ≡ hs → IsCaller slots done hs → IsCaller slots' done' hs'
  known_at slots slots' done done' hs hs' a b e is = subst (λ n. IsCaller n done' hs') (sym a) (subst (λ t. IsCaller slots t hs') (sym b) (subst (IsCaller slots done) (sym e) is))

module _ {P J : Type 0} (job_of : P → J) where
  pub draws_known : (slots : ℕ) (m : Me (Option P) (Hands J)) (n : ℕ) (m' : Me (Option P) (Hands J)) → IsCaller slots false m.0 → unposted (hand m.0) ≡ [] → n < slots → DrawsBelow job_of m n m' → IsCaller slots false m'.0
  draws_known slots m n m' is out few d = subst (IsCaller slots false) (sym d.0) (draw_known slots m.0 n is out few d.2)

  -- the slot that is out once its blank has been taken out of it
  pub draws_held : (m : Me (Option P) (Hands J)) (n : ℕ) (m' : Me (Option P) (Hands J)) → unposted (hand m.0) ≡ [] → m.1 ≡ slots_out (hand m.0) → DrawsBelow job_of m n m' → (n, None) ∷ rest m'.1 ≡ slots_out (hand m'.0)
  draws_held m n m' out held d = ap (λ xs. (n, None) ∷ rest xs) d.3.1 ∙ (ap (λ xs. (n, None) ∷ xs) (held ∙ ap (map (λ k. (k, None))) out)
      ∙ sym (ap (λ hs. slots_out (hand hs)) d.0 ∙ ap (map (λ k. (k, None))) (unposted-draw (hand m.0) n d.2 ∙ ap (λ xs. xs ++ n ∷ []) out)))

module _ {P J : Type 0} where
  -- the slot of the claim that is out is empty
  pub claim_held : (slots : ℕ) (done : Bool) (m : Me (Option P) (Hands J)) (n : ℕ) → IsCaller slots done m.0 → m.1 ≡ slots_out (hand m.0) → is_member (hand m.0).drawn n ≡ true → is_member (hand m.0).posted n ≡ false → m.1 ≡ (n, None) ∷ []
  claim_held slots done m n is held drawn new = held ∙ ap (map (λ k. (k, None))) (claim_out slots done m.0 n is drawn new)

  pub post_held : (slots : ℕ) (done : Bool) (hs : Hands J) (n : ℕ) → IsCaller slots done hs → is_member (hand hs).drawn n ≡ true → is_member (hand hs).posted n ≡ false → slots_out {P = P} (after_post (hand hs) n) ≡ []
  post_held slots done hs n is drawn new = ap (map (λ k. (k, None))) (unposted-post (hand hs) n (claim_out slots done hs n is drawn new))

-- the slot that was taken last
pub top_of : {A : Type 0} (xs : List (ℕ × A)) (x : ℕ × A) (ys : List (ℕ × A)) → xs ≡ x ∷ ys → xs ≡ x ∷ rest xs
top_of xs x ys e = e ∙ ap (λ zs. x ∷ zs) (sym (ap rest e))

-- an empty slot has no value
pub empty_slot : {A : Type 0} (xs : List (ℕ × Option A)) (n k : ℕ) (y : Option A) (ys : List (ℕ × Option A)) → xs ≡ (n, None) ∷ [] → xs ≡ (k, y) ∷ ys → y ≡ None
empty_slot xs n k y ys e f = ap (λ zs. value zs) (sym f ∙ e)
  where
    value : {A : Type 0} → List (ℕ × Option A) → Option A
    value [] = None
    value (z ∷ zs) = z.1
