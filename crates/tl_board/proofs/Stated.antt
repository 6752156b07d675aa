-- What crates above may cite: the callers of a board between their calls.
use Rattle.std.proofs.Common.{◌≡◌, ℕ, ◌<◌, Bool, true, false, cond, List, [], ◌∷◌, ◌++◌, map, length, refl, sym, ap, ◌∙◌, subst}
use Rattle.std.specs.Prelude.{Option, Some, ◌==◌, not, filter, All}
use Rattle.std.proofs.lemmas.Bool.{or_left, or_right, eq-eqb}
use Rattle.tl_board.specs.declared.views.CallerView.{CallerView}
use Rattle.tl_board.specs.Board.{is_member}
use Rattle.tl_board.specs.Hands.{unposted, fresh, fresh_hands}
use Rattle.tl_board.specs.Steps.{after_draw, after_post}
use Rattle.std.proofs.lemmas.List.{length-map, get_or-map}
use Rattle.std.proofs.lemmas.List.FromFn.{length-map-range_with_len}
use Rattle.std.proofs.lemmas.List.Elements.{All-map}
use Rattle.tl_lists.specs.Lists.{upto}
pub use Rattle.tl_board.proofs.Known.{posted_last}

all_dropped : (p : ℕ → Bool) (xs : List ℕ) → ((n : ℕ) → is_member xs n ≡ true → p n ≡ false) → filter p xs ≡ []
all_dropped p [] each = refl
all_dropped p (x ∷ xs) each = ap (λ b. cond b (x ∷ filter p xs) (filter p xs)) (each x (or_left (x == x) (is_member xs x) (eq-eqb x x refl))) ∙ all_dropped p xs (λ n e. each n (or_right (x == n) (is_member xs n) e))

-- a caller that posted all that it drew has no claim out
pub none_out : {J : Type 0} (c : CallerView (Option J)) → c.posted ≡ c.drawn → unposted c ≡ []
none_out c e = all_dropped (λ n. not (is_member c.posted n)) c.drawn (λ n m. ap not (ap (λ xs. is_member xs n) e ∙ m))

-- a number that was claimed by a caller that had posted all is drawn and not posted
pub claimed : {J : Type 0} (before after : CallerView (Option J)) (n m : ℕ) → before.posted ≡ before.drawn → is_member before.drawn n ≡ false → after ≡ after_draw before n → m ≡ n → (is_member after.drawn m ≡ true) × (is_member after.posted m ≡ false)
claimed before after n m all new e same = (
  ap (λ v. is_member v.drawn m) e ∙ (ap (is_member (before.drawn ++ n ∷ [])) same ∙ posted_last before.drawn n),
  ap (λ v. is_member v.posted m) e ∙ (ap (is_member before.posted) same ∙ (ap (λ xs. is_member xs n) all ∙ new)),
)

-- once it is posted, all is posted again
pub all_again : {J : Type 0} (before between after : CallerView (Option J)) (n m : ℕ) → before.posted ≡ before.drawn → between ≡ after_draw before n → after ≡ after_post between m → m ≡ n → after.posted ≡ after.drawn
all_again before between after n m all e f same = ap (λ v. v.posted) f ∙ (ap (λ v. v.posted ++ m ∷ []) e ∙ (ap (λ xs. xs ++ m ∷ []) all ∙ (ap (λ k. before.drawn ++ k ∷ []) same ∙ sym (ap (λ v. v.drawn) f ∙ ap (λ v. v.drawn) e))))

-- the callers that a board is opened with
pub opened : {A J : Type 0} (see : A → CallerView (Option J)) (xs : List A) (job : J) (count callers : ℕ) → map see xs ≡ fresh_hands job count callers → (length xs ≡ callers) × All (λ x. ((see x).posted ≡ (see x).drawn) × ((see x).count ≡ count)) xs
opened {A} {J} see xs job count callers are = let Q : CallerView (Option J) → Type 0 = λ v. (v.posted ≡ v.drawn) × (v.count ≡ count) in
    let all : All Q (map see xs) = subst (All Q) (sym are) (All-map Q (fresh (Some job) count callers) (upto callers) (λ k d near. (refl, refl))) in (
      sym (length-map xs see) ∙ (ap length are ∙ length-map-range_with_len (fresh (Some job) count callers) 0 callers),
      λ k d near. subst Q (get_or-map see xs k d (see d) near) (all k (see d) (subst (λ (n : ℕ). k < n) (sym (length-map xs see)) near)),
    )
