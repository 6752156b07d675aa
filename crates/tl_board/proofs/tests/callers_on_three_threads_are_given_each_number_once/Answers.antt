use Rattle.std.proofs.Common.{◌≡◌, ℕ, ◌<◌, List, ◌++◌, length, map, take, drop, get_or, sym, ap, ◌∙◌, subst, arith}
use Rattle.std.specs.Prelude.{All}
use Rattle.std.proofs.lemmas.List.{length-map, get_or-map}
use Rattle.std.proofs.lemmas.List.Elements.{All-same, All-map}
use Rattle.std.proofs.lemmas.Grind.{common_steps}
use Rattle.tl_board.specs.Calls.{view, IsIdleOf}
use Rattle.tl_board.proofs.Stated.{none_out}
use Rattle.tl_board.proofs.tests.callers_on_three_threads_are_given_each_number_once.Goals as goal

-- what is so of each caller is so of the caller of each hand
of_hands : {A B : Type 0} (hands : List A) (callers : List B) (caller : A → B) (Q : B → Type 0) → map caller hands ≡ callers → All Q callers → All (λ h. Q (caller h)) hands
of_hands hands callers caller Q e all = λ k d near.
    subst Q (get_or-map caller hands k d (caller d) near) (subst (All Q) (sym e) all k (caller d) (subst (λ (n : ℕ). k < n) (sym (length-map hands caller)) near))

pub work_beside-requires-after_bounds : goal.work_beside-requires-after_bounds
work_beside-requires-after_bounds g c κs = All-same (λ h. IsIdleOf c.in_ok-board.board h.caller) _ c.in_ok-hands.hands.items c.as_mut_slice.ensures.value
    (of_hands c.in_ok-hands.hands.items c.in_ok-board.callers.items (λ h. h.caller) (IsIdleOf c.in_ok-board.board) c.in_ok-hands.ensures (λ k d near. (c.in_ok-board.ensures.ready k d near).0))

-- the callers of hands that were written back
back : {A B : Type 0} (after before : List A) (callers : List B) (caller : A → B) (n : ℕ) → callers ≡ map caller (take n (after ++ drop (length after) before)) → length after ≡ n → callers ≡ map caller after
back after before callers caller n are long = are ∙ ap (map caller) (whole n after before long)
  where
    whole : {A : Type 0} (n : ℕ) (after before : List A) → length after ≡ n → take n (after ++ drop (length after) before) ≡ after
    whole n after before long = grind (arith, common_steps)

pub close-requires-clause-callers : goal.close-requires-clause-callers
close-requires-clause-callers g c κs = let after = c.work_beside.new.hands in let hands = c.in_ok-hands.hands.items in let callers = c.in_ok-callers.callers.items in
    let long : length after ≡ length c.as_mut_slice.result.now = c.work_beside.auto.hands in
    let are = back after hands callers (λ h. h.caller) c.in_ok-hands.hands.len c.in_ok-callers.ensures (long ∙ c.as_mut_slice.ensures.len) in
    let each = All-same (IsIdleOf c.in_ok-board.board) callers (map (λ h. h.caller) after) are (All-map (IsIdleOf c.in_ok-board.board) (λ h. h.caller) after c.work_beside.ensures) in (
      omega (arith, ap length are, length-map after (λ h. h.caller), long, ap length c.as_mut_slice.ensures.value, length-map hands (λ h. h.caller), ap length c.in_ok-hands.ensures, c.in_ok-board.ensures.callers.0, c.in_ok-board.ensures.callers.1),
      λ k d near. (each k d near).0,
    )

pub close-requires-clause-none_out : goal.close-requires-clause-none_out
close-requires-clause-none_out g c κs = let after = c.work_beside.new.hands in let callers = c.in_ok-callers.callers.items in
    let long : length after ≡ length c.as_mut_slice.result.now = c.work_beside.auto.hands in
    let are = back after c.in_ok-hands.hands.items callers (λ h. h.caller) c.in_ok-hands.hands.len c.in_ok-callers.ensures (long ∙ c.as_mut_slice.ensures.len) in
    let each = All-same (IsIdleOf c.in_ok-board.board) callers (map (λ h. h.caller) after) are (All-map (IsIdleOf c.in_ok-board.board) (λ h. h.caller) after c.work_beside.ensures) in
    λ k d near. none_out (view (get_or callers k d)) (each k d near).1
