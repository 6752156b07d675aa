use Rattle.std.proofs.Common.{◌≡◌, [], get_or, sym, ap, ◌∙◌, Some}
use Rattle.std.proofs.lemmas.List.Elements.{All-pop}
use Rattle.tl_board.specs.Calls.{view, IsIdleOf}
use Rattle.tl_board.specs.Hands.{unposted}
use Rattle.tl_board.proofs.Opens.{all_more}
use Rattle.tl_board.proofs.Stated.{none_out, claimed, all_again}
use Rattle.tl_board.proofs.tests.a_posted_piece_is_taken_once.Goals as goal

pub claim-requires-clause-none_out : goal.claim-requires-clause-none_out
claim-requires-clause-none_out g c κs = let first = c.in-Some.first in
    none_out (view first) (All-pop (λ x. IsIdleOf c.in_ok-board.board x × ((view x).count ≡ 2)) _ _ (Some first) c.in-Some.ensures.items c.in_ok-board.ensures.ready).1.0.1

pub post-requires-clause-claimed : goal.post-requires-clause-claimed
post-requires-clause-claimed g c κs = let first = c.in-Some.first in
    let idle = (All-pop (λ x. IsIdleOf c.in_ok-board.board x × ((view x).count ≡ 2)) _ _ (Some first) c.in-Some.ensures.items c.in_ok-board.ensures.ready).1.0.1 in
    let told = c.in-Some-claim.ensures.claim in
    claimed (view first) (view c.claim.new.caller) c.in-Some-claim.claim.number c.filled.result.number idle told.1 told.4 c.filled.ensures.number

pub close-requires-clause-none_out : goal.close-requires-clause-none_out
close-requires-clause-none_out g c κs = let first = c.in-Some.first in let looked = c.look.ensures.read.2 in
    let idle = (All-pop (λ x. IsIdleOf c.in_ok-board.board x × ((view x).count ≡ 2)) _ _ (Some first) c.in-Some.ensures.items c.in_ok-board.ensures.ready).1.0.1 in
    let again = all_again (view first) (view c.claim.new.caller) (view c.post.new.caller) c.in-Some-claim.claim.number c.filled.result.number idle c.in-Some-claim.ensures.claim.4 c.post.ensures.posted c.filled.ensures.number in
    all_more (λ x. unposted (view x) ≡ []) _ c.look.new.caller _ c.in_ok-push.ensures.items (λ k d near. none_out (view (get_or c.work.new.callers.items k d)) (c.work.ensures.ready k d near).0.1)
    (none_out (view c.look.new.caller) (ap (λ v. v.posted) looked ∙ (again ∙ sym (ap (λ v. v.drawn) looked))))
