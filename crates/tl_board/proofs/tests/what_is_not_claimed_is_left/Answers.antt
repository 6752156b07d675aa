use Rattle.std.proofs.Common.{◌≡◌, List, [], ◌∷◌, ◌++◌, map, length, get_or, subst, arith, ap, ◌∙◌}
use Rattle.std.specs.Prelude.{All}
use Rattle.tl_board.specs.Calls.{view}
use Rattle.tl_board.specs.Hands.{Hands, fresh_hands}
use Rattle.tl_board.specs.declared.tests.Token.{Token}
use Rattle.tl_board.proofs.Stated.{none_out, opened}
use Rattle.tl_board.proofs.tests.what_is_not_claimed_is_left.Goals as goal

views : (hs : Hands (Unit {0})) (blanks rest : List Token) (t : Token) → blanks ≡ rest ++ t ∷ [] → rest ≡ [] → All (λ p. hs ≡ fresh_hands tt (length blanks) 1) blanks → hs ≡ fresh_hands tt 1 1
views hs blanks rest t e f all = subst (λ bs. All (λ p. hs ≡ fresh_hands tt (length bs) 1) bs) (e ∙ ap (λ bs. bs ++ t ∷ []) f) all 0 t (omega arith)

pub close-requires-clause-none_out : goal.close-requires-clause-none_out
close-requires-clause-none_out g c κs = let items = c.in_ok-board.callers.items in
    let are = views (map view items) _ _ _ c.in_ok-push.ensures.items c.new-blanks.ensures.items c.in_ok-board.ensures.views in
    λ k d near. none_out (view (get_or items k d)) ((opened view items tt 1 1 are).1 k d near).0
