-- The steps from and to an inner corner are steps of the region.
use Rattle.std.proofs.Common.{◌≡◌, ◌+◌, ◌%◌, inl, inr, Bool, true, false, List, ◌∷◌, sym, subst, arith}
use Rattle.std.proofs.lemmas.Bool.{and_parts, eqb-true}
use Rattle.tl_definitions.specs.declared.Kind.{Kind}
use Rattle.tl_definitions.specs.declared.Kind.TheVariants.{Square, Triangle}
use Rattle.tl_definitions.specs.declared.Cell.{Cell}
use Rattle.tl_definitions.specs.declared.Corner.{Corner}
use Rattle.tl_definitions.specs.Lattice.{is_corner, is_dark}
use Rattle.tl_definitions.specs.Region.{Region, is_corner_of, is_step, is_inner}
use Rattle.tl_lists.proofs.Members.{In}
use Rattle.tl_definitions.proofs.Corners.{corner-same}
use Rattle.tl_definitions.proofs.Steps.{IsStepOut, IsStepIn, IsMove, step-move, step_in-move}
use Rattle.tl_closing.specs.Closing.{steps_round}
use Rattle.tl_closing.proofs.Sides.{dark-from, light-from, left_step, other_steps, steps-table}
use Rattle.tl_closing.proofs.Edges.{Step, is_step-from, step-ends}
use Rattle.tl_closing.proofs.Ring.{HasRing, inner-ring, inner-left}

-- a step round one of the cells
abbrev IsRound : Kind → List Cell → Step → Type 0
IsRound k cells e = (a : Cell) × In a cells × In e (steps_round k a)

round-by : (k : Kind) (cells : List Cell) (a : Cell) (t : Bool) (e : Step) → In a cells → is_dark a ≡ t → In e (left_step k t a.r a.c ∷ other_steps k t a.r a.c) → IsRound k cells e
round-by k cells a t e i colour j =
    (a, i, subst (λ (es : List Step). In e es) (sym (steps-table k a)) (subst (λ (t : Bool). In e (left_step k t a.r a.c ∷ other_steps k t a.r a.c)) (sym colour) j))

step_is : (u v u' v' : Corner) → u.r ≡ u'.r → u.x ≡ u'.x → v.r ≡ v'.r → v.x ≡ v'.x → ◌≡◌ {A = Step} (u, v) (u', v')
step_is u v u' v' p q s t = λ i. (corner-same u u' p q i, corner-same v v' s t i)

-- ---- from the corner

out-square : (cells : List Cell) (v w : Corner) → HasRing Square cells v → IsMove Square v w → IsRound Square cells (v, w)
out-square cells v w ((a, i, p, q), ne, (b, j, s, t), sw) (inl (even, column, inl up)) =
    round-by Square cells a true (v, w) i (dark-from a (omega (arith, even, p, q)))
    (inr (inr (inl (step_is v w _ _ (sym p) (sym q) (omega (arith, up, p)) (omega (arith, column, q))))))
out-square cells v w ((a, i, p, q), ne, (b, j, s, t), sw) (inl (even, column, inr down)) =
    round-by Square cells b true (v, w) j (dark-from b (omega (arith, even, s, t)))
    (inl (step_is v w _ _ (omega (arith, s)) (omega (arith, t)) (omega (arith, down, s)) (omega (arith, column, t))))
out-square cells v w ((a, i, p, q), ne, (b, j, s, t), sw) (inr (odd, row, inl back)) =
    round-by Square cells a false (v, w) i (light-from a (omega (arith, odd, p, q)))
    (inr (inl (step_is v w _ _ (sym p) (sym q) (omega (arith, row, p)) (omega (arith, back, q)))))
out-square cells v w ((a, i, p, q), ne, (b, j, s, t), sw) (inr (odd, row, inr on)) =
    round-by Square cells b false (v, w) j (light-from b (omega (arith, odd, s, t)))
    (inr (inr (inr (inl (step_is v w _ _ (omega (arith, s)) (omega (arith, t)) (omega (arith, row, s)) (omega (arith, on, t)))))))

out-triangle : (cells : List Cell) (v w : Corner) → (v.r + v.x) % 2 ≡ 1 → HasRing Triangle cells v → IsMove Triangle v w → IsRound Triangle cells (v, w)
out-triangle cells v w odd (one, two, (a, i, p, q), four, five, six) (inl (row, on)) =
    round-by Triangle cells a true (v, w) i (dark-from a (omega (arith, odd, p, q)))
    (inr (inl (step_is v w _ _ (sym p) (omega (arith, q)) (omega (arith, row, p)) (omega (arith, on, q)))))
out-triangle cells v w odd ((a, i, p, q), two, three, four, five, six) (inr (inl (up, back))) =
    round-by Triangle cells a true (v, w) i (dark-from a (omega (arith, odd, p, q)))
    (inr (inr (inl (step_is v w _ _ (sym p) (sym q) (omega (arith, up, p)) (omega (arith, back, q))))))
out-triangle cells v w odd (one, two, three, four, (a, i, p, q), six) (inr (inr (down, back))) =
    round-by Triangle cells a true (v, w) i (dark-from a (omega (arith, odd, p, q)))
    (inl (step_is v w _ _ (omega (arith, p)) (sym q) (omega (arith, down, p)) (omega (arith, back, q))))

out-kind : (k : Kind) (cells : List Cell) (v w : Corner) → is_corner k v ≡ true → HasRing k cells v → IsMove k v w → IsRound k cells (v, w)
out-kind Square cells v w e ring move = out-square cells v w ring move
out-kind Triangle cells v w e ring move = out-triangle cells v w (eqb-true _ _ e) ring move

-- ---- to the corner

in-square : (cells : List Cell) (v u : Corner) → HasRing Square cells v → IsMove Square u v → IsRound Square cells (u, v)
in-square cells v u ((a, i, p, q), ne, (b, j, s, t), sw) (inl (even, column, inl up)) =
    round-by Square cells b false (u, v) j (light-from b (omega (arith, even, column, up, s, t)))
    (inl (step_is u v _ _ (omega (arith, up, s)) (omega (arith, column, t)) (omega (arith, s)) (omega (arith, t))))
in-square cells v u ((a, i, p, q), ne, (b, j, s, t), sw) (inl (even, column, inr down)) =
    round-by Square cells a false (u, v) i (light-from a (omega (arith, even, column, down, p, q)))
    (inr (inr (inl (step_is u v _ _ (omega (arith, down, p)) (omega (arith, column, q)) (sym p) (sym q)))))
in-square cells v u ((a, i, p, q), ne, (b, j, s, t), sw) (inr (odd, row, inl back)) =
    round-by Square cells b true (u, v) j (dark-from b (omega (arith, odd, row, back, s, t)))
    (inr (inr (inr (inl (step_is u v _ _ (omega (arith, row, s)) (omega (arith, back, t)) (omega (arith, s)) (omega (arith, t)))))))
in-square cells v u ((a, i, p, q), ne, (b, j, s, t), sw) (inr (odd, row, inr on)) =
    round-by Square cells a true (u, v) i (dark-from a (omega (arith, odd, row, on, p, q)))
    (inr (inl (step_is u v _ _ (omega (arith, row, p)) (omega (arith, on, q)) (sym p) (sym q))))

in-triangle : (cells : List Cell) (v u : Corner) → (v.r + v.x) % 2 ≡ 1 → HasRing Triangle cells v → IsMove Triangle u v → IsRound Triangle cells (u, v)
in-triangle cells v u odd ((a, i, p, q), two, three, four, five, six) (inl (row, on)) =
    round-by Triangle cells a true (u, v) i (dark-from a (omega (arith, odd, p, q)))
    (inr (inl (step_is u v _ _ (omega (arith, row, p)) (omega (arith, on, q)) (sym p) (sym q))))
in-triangle cells v u odd (one, two, three, four, (a, i, p, q), six) (inr (inl (up, back))) =
    round-by Triangle cells a true (u, v) i (dark-from a (omega (arith, odd, p, q)))
    (inr (inr (inl (step_is u v _ _ (omega (arith, up, p)) (omega (arith, back, q)) (omega (arith, p)) (sym q)))))
in-triangle cells v u odd (one, two, (a, i, p, q), four, five, six) (inr (inr (down, back))) =
    round-by Triangle cells a true (u, v) i (dark-from a (omega (arith, odd, p, q)))
    (inl (step_is u v _ _ (omega (arith, down, p)) (omega (arith, back, q)) (sym p) (omega (arith, q))))

in-kind : (k : Kind) (cells : List Cell) (v u : Corner) → is_corner k v ≡ true → HasRing k cells v → IsMove k u v → IsRound k cells (u, v)
in-kind Square cells v u e ring move = in-square cells v u ring move
in-kind Triangle cells v u e ring move = in-triangle cells v u (eqb-true _ _ e) ring move

-- ---- so they are steps of the region

round-step_of : (R : Region) (u w : Corner) → IsRound R.kind R.cells (u, w) → is_step R u w ≡ true
round-step_of R u w (a, i, j) = is_step-from R a u w i j

pub inner-step_out : (R : Region) (v w : Corner) → is_inner R v ≡ true → IsStepOut R.kind v w → is_step R v w ≡ true
inner-step_out R v w inner i = round-step_of R v w (out-kind R.kind R.cells v w (and_parts _ _ inner).0 (inner-ring R v inner) (step-move R.kind v w i))

pub inner-step_in : (R : Region) (v u : Corner) → is_inner R v ≡ true → IsStepIn R.kind u v → is_step R u v ≡ true
inner-step_in R v u inner i = round-step_of R u v (in-kind R.kind R.cells v u (and_parts _ _ inner).0 (inner-ring R v inner) (step_in-move R.kind u v i))

-- and the corner is one of the region
pub inner-of_region : (R : Region) (v : Corner) → is_inner R v ≡ true → is_corner_of R v ≡ true
inner-of_region R v inner =
    let (w, left) = inner-left R v inner in
    elim left.joined [ inl j ↦ (step-ends R w v j).1 | inr j ↦ (step-ends R v w j).0 ]
