use Rattle.std.proofs.Common.{◌≡◌, ℕ, List, [], ◌∷◌, ◌++◌, map, length, refl, subst, arith, ap, ◌∙◌}
use Rattle.std.specs.Prelude.{All}
use Rattle.std.proofs.lemmas.List.Elements.{All-nil, All-same}
use Rattle.tl_board.specs.Calls.{view}
use Rattle.tl_board.specs.Hands.{Hands, fresh_hands}
use Rattle.tl_board.specs.declared.tests.Sum.{Sum}
use Rattle.tl_board.proofs.Opens.{all_more}
use Rattle.tl_board.proofs.Stated.{opened}
use Rattle.tl_board.proofs.tests.open_sums.Goals as goal

abbrev blank : Sum
blank = record { start = 5; sum = 0 }

two : (xs ys zs : List Sum) → xs ≡ [] → ys ≡ xs ++ blank ∷ [] → zs ≡ ys ++ blank ∷ [] → zs ≡ blank ∷ blank ∷ []
two xs ys zs e f h = h ∙ ap (λ bs. bs ++ blank ∷ []) (f ∙ ap (λ bs. bs ++ blank ∷ []) e)

views : (hs : Hands ℕ) (blanks : List Sum) (callers : ℕ) → blanks ≡ blank ∷ blank ∷ [] → All (λ p. hs ≡ fresh_hands p.start (length blanks) callers) blanks → hs ≡ fresh_hands 5 2 callers
views hs blanks callers e all = subst (λ bs. All (λ p. hs ≡ fresh_hands p.start (length bs) callers) bs) e all 0 blank (omega arith)

pub open-requires-clause-job : goal.open-requires-clause-job
open-requires-clause-job c κs = let Q : Sum → Type 0 = λ p. p.start ≡ 5 in
    (5, all_more Q _ _ _ c.push_reserved-2.ensures.items (all_more Q _ _ _ c.push_reserved.ensures.items (All-same Q _ [] c.in_ok-blanks.ensures.items (All-nil Q)) refl) refl)

pub returns-clause-callers : goal.returns-clause-callers
returns-clause-callers c = let items = c.in_ok-board.callers.items in
    let are = views (map view items) _ c.args.callers (two _ _ _ c.in_ok-blanks.ensures.items c.push_reserved.ensures.items c.push_reserved-2.ensures.items) c.in_ok-board.ensures.views in
    (c.in_ok-board.ensures.callers.0, (opened view items 5 2 c.args.callers are).0)

pub returns-clause-ready : goal.returns-clause-ready
returns-clause-ready c = let items = c.in_ok-board.callers.items in
    let are = views (map view items) _ c.args.callers (two _ _ _ c.in_ok-blanks.ensures.items c.push_reserved.ensures.items c.push_reserved-2.ensures.items) c.in_ok-board.ensures.views in
    λ k d near. let known = (opened view items 5 2 c.args.callers are).1 k d near in ((c.in_ok-board.ensures.callers.1 k d near, known.0), known.1)
