-- Raising a height by the rise of a flip, where the tiling stands low, gives the heights of the tiling put high there;
-- lowering it, where the tiling stands high, gives those of the tiling put low.
use Rattle.std.proofs.Common.{◌≡◌, ◌+◌, ◌-◌, ◌%◌, Bool, true, false, cond, List, inl, sym, ◌∙◌, ap, subst, arith, ℤ, pos, negsuc, ◌+ℤ◌, ◌≤ℤ◌, ◌<ℤ◌, int_lt}
use Rattle.std.specs.Prelude.{IsTrue}
use Rattle.std.specs.List.{list_all}
use Rattle.std.proofs.lemmas.Int.{ints}
use Rattle.std.proofs.lemmas.Bool.{and_parts, eqb-true, false_from_ne_true, true_from_ne_false}
use Rattle.tl_definitions.specs.declared.Kind.{Kind}
use Rattle.tl_definitions.specs.declared.Kind.TheVariants.{Square, Triangle}
use Rattle.tl_definitions.specs.declared.Cell.{Cell}
use Rattle.tl_definitions.specs.declared.Corner.{Corner}
use Rattle.tl_definitions.specs.declared.Tile.{Tile}
use Rattle.tl_definitions.specs.Lattice.{corner, corner_eq, is_corner, is_dark, corners, steps_out, rise, steps_in}
use Rattle.tl_definitions.specs.Region.{Region, is_inner, is_step}
use Rattle.tl_lists.specs.Lists.{present}
use Rattle.tl_definitions.specs.Accepted.{Accepted}
use Rattle.tl_definitions.specs.Tiling.{is_tiling}
use Rattle.tl_definitions.specs.Flip.{stands_high, stands_low, put_high, put_low, flip}
use Rattle.tl_definitions.specs.Heights.{height, AreHeights, AreLawful}
use Rattle.tl_lists.proofs.Members.{In, In-list_all}
use Rattle.tl_definitions.proofs.Tilings.{tiling-parts}
use Rattle.tl_definitions.proofs.Corners.{corner-same}
use Rattle.tl_closing.specs.Closing.{steps_round}
use Rattle.tl_closing.specs.Standing.{falls_from, falls_to}
use Rattle.tl_closing.specs.Changed.{IsChangedAt}
use Rattle.tl_closing.proofs.Crossed.{is_crossed, IsCrossing, one-crossed}
use Rattle.tl_definitions.proofs.Steps.{IsStepOut, step-move, move-step_in}
use Rattle.tl_closing.proofs.Residues.{step-one_way}
use Rattle.tl_closing.proofs.Sides.{light-from}
use Rattle.tl_closing.proofs.Edges.{round-step, step-out, step-in, step-ends}
use Rattle.tl_closing.proofs.Ring.{HasRing, inner-ring}
use Rattle.tl_closing.proofs.RingTiles.{round-begins}
use Rattle.tl_closing.proofs.Falls.{lt-true, lt-false}
use Rattle.tl_closing.proofs.Heights.{heights-lawful, has-tiling}
use Rattle.tl_closing.proofs.Standing.{crossed-told, standing-crossed, standing-heights}
use Rattle.tl_closing.proofs.AlongSteps.{fall-value}
use Rattle.tl_closing.proofs.Changed.{raised-lawful, lowered-lawful}
use Rattle.tl_closing.proofs.Flips.{apart, apart-back, is-put_high, is-put_low}

lt-from : (x y : ℤ) → (x ≤ℤ y → ⊥) → int_lt y x ≡ true
lt-from x y h = true_from_ne_false (int_lt y x) (λ e. h (lt-false y x e))

lt-not : (x y : ℤ) → (y <ℤ x → ⊥) → int_lt y x ≡ false
lt-not x y h = false_from_ne_true (int_lt y x) (λ e. h (lt-true y x e))

module _ (R : Region) (A : List Tile) (numbers others : List ℤ) (v : Corner) (accepted : Accepted R) (tiling : IsTrue (is_tiling R A)) (heights : AreHeights R A numbers) where
  lawful : AreLawful R numbers
  lawful = heights-lawful R A numbers accepted tiling heights

  pub raised-put_high : IsTrue (stands_low R A v) → IsChangedAt R numbers others v (pos (rise R.kind))
      → IsTrue (is_tiling R (put_high R A v)) × AreHeights R (put_high R A v) others
  raised-put_high low changed = go (has-tiling R others accepted (raised-lawful R numbers others v accepted lawful inner falls changed))
    where
      inner : is_inner R v ≡ true
      inner = (and_parts _ _ low).0

      falls : IsTrue (falls_to R numbers v)
      falls = sym (standing-heights R A (height R numbers) v tiling heights.along inner).1 ∙ low

      above : (k : Kind) (hv hw h'v h'w : ℤ) → hw ≤ℤ (hv +ℤ pos 1) → h'v ≡ hv +ℤ pos (rise k) → h'w ≡ hw → h'v ≤ℤ h'w → ⊥
      above Square hv hw h'v h'w l e f g = omega (arith, ints, l, e, f, g)
      above Triangle hv hw h'v h'w l e f g = omega (arith, ints, l, e, f, g)

      below : (k : Kind) (hu hv h'u h'v : ℤ) → hv ≡ hu +ℤ negsuc (rise k - 2) → h'v ≡ hv +ℤ pos (rise k) → h'u ≡ hu → h'v <ℤ h'u → ⊥
      below Square hu hv h'u h'v l e f g = omega (arith, ints, l, e, f, g)
      below Triangle hu hv h'u h'v l e f g = omega (arith, ints, l, e, f, g)

      go : (B : List Tile) × IsTrue (is_tiling R B) × AreHeights R B others × ((C : List Tile) → IsTrue (is_tiling R C) → AreHeights R C others → C ≡ B)
          → IsTrue (is_tiling R (put_high R A v)) × AreHeights R (put_high R A v) others
      go (B, b, q, only) = (subst (λ (C : List Tile). IsTrue (is_tiling R C)) same b, subst (λ (C : List Tile). AreHeights R C others) same q)
        where
          out : (w : Corner) → IsTrue (is_step R v w) → is_crossed R B (v, w) ≡ true
          out w e =
              let off : corner_eq w v ≡ false = apart-back R A B numbers others v (pos (rise R.kind)) accepted tiling b heights q inner changed v w e in
              let there : height R others w ≡ height R numbers w = changed.elsewhere w (step-ends R v w e).1 off in
              crossed-told R.kind (height R others v) (height R others w) (is_crossed R B (v, w)) (q.along v w e)
              ∙ lt-from (height R others v) (height R others w)
              (above R.kind (height R numbers v) (height R numbers w) (height R others v) (height R others w) (lawful.least v w e) changed.here there)

          into : (u : Corner) → IsTrue (is_step R u v) → is_crossed R B (u, v) ≡ false
          into u e =
              let off : corner_eq u v ≡ false = apart R A B numbers others v (pos (rise R.kind)) accepted tiling b heights q inner changed u v e in
              let there : height R others u ≡ height R numbers u = changed.elsewhere u (step-ends R u v e).0 off in
              let fall : height R numbers v ≡ height R numbers u +ℤ negsuc (rise R.kind - 2) =
              fall-value R numbers lawful u v e (In-list_all (λ u. int_lt (height R numbers v) (height R numbers u)) (present (steps_in R.kind v)) u falls (step-in R u v e)) in
              crossed-told R.kind (height R others u) (height R others v) (is_crossed R B (u, v)) (q.along u v e)
              ∙ lt-not (height R others u) (height R others v)
              (below R.kind (height R numbers u) (height R numbers v) (height R others u) (height R others v) fall changed.here there)

          same : B ≡ put_high R A v
          same = is-put_high R A B numbers others v (pos (rise R.kind)) accepted tiling b heights q inner changed low out into

  pub lowered-put_low : IsTrue (stands_high R A v) → IsChangedAt R numbers others v (negsuc (rise R.kind - 1))
      → IsTrue (is_tiling R (put_low R A v)) × AreHeights R (put_low R A v) others
  lowered-put_low high changed = go (has-tiling R others accepted (lowered-lawful R numbers others v accepted lawful inner falls changed))
    where
      inner : is_inner R v ≡ true
      inner = (and_parts _ _ high).0

      falls : IsTrue (falls_from R numbers v)
      falls = sym (standing-heights R A (height R numbers) v tiling heights.along inner).0 ∙ high

      above : (k : Kind) (hv hw h'v h'w : ℤ) → hw ≡ hv +ℤ negsuc (rise k - 2) → h'v ≡ hv +ℤ negsuc (rise k - 1) → h'w ≡ hw → h'w <ℤ h'v → ⊥
      above Square hv hw h'v h'w l e f g = omega (arith, ints, l, e, f, g)
      above Triangle hv hw h'v h'w l e f g = omega (arith, ints, l, e, f, g)

      below : (k : Kind) (hu hv h'u h'v : ℤ) → hv ≤ℤ (hu +ℤ pos 1) → h'v ≡ hv +ℤ negsuc (rise k - 1) → h'u ≡ hu → h'u ≤ℤ h'v → ⊥
      below Square hu hv h'u h'v l e f g = omega (arith, ints, l, e, f, g)
      below Triangle hu hv h'u h'v l e f g = omega (arith, ints, l, e, f, g)

      go : (B : List Tile) × IsTrue (is_tiling R B) × AreHeights R B others × ((C : List Tile) → IsTrue (is_tiling R C) → AreHeights R C others → C ≡ B)
          → IsTrue (is_tiling R (put_low R A v)) × AreHeights R (put_low R A v) others
      go (B, b, q, only) = (subst (λ (C : List Tile). IsTrue (is_tiling R C)) same b, subst (λ (C : List Tile). AreHeights R C others) same q)
        where
          out : (w : Corner) → IsTrue (is_step R v w) → is_crossed R B (v, w) ≡ false
          out w e =
              let off : corner_eq w v ≡ false = apart-back R A B numbers others v (negsuc (rise R.kind - 1)) accepted tiling b heights q inner changed v w e in
              let there : height R others w ≡ height R numbers w = changed.elsewhere w (step-ends R v w e).1 off in
              let fall : height R numbers w ≡ height R numbers v +ℤ negsuc (rise R.kind - 2) =
              fall-value R numbers lawful v w e (In-list_all (λ w. int_lt (height R numbers w) (height R numbers v)) (present (steps_out R.kind v)) w falls (step-out R v w e)) in
              crossed-told R.kind (height R others v) (height R others w) (is_crossed R B (v, w)) (q.along v w e)
              ∙ lt-not (height R others v) (height R others w)
              (above R.kind (height R numbers v) (height R numbers w) (height R others v) (height R others w) fall changed.here there)

          into : (u : Corner) → IsTrue (is_step R u v) → is_crossed R B (u, v) ≡ true
          into u e =
              let off : corner_eq u v ≡ false = apart R A B numbers others v (negsuc (rise R.kind - 1)) accepted tiling b heights q inner changed u v e in
              let there : height R others u ≡ height R numbers u = changed.elsewhere u (step-ends R u v e).0 off in
              crossed-told R.kind (height R others u) (height R others v) (is_crossed R B (u, v)) (q.along u v e)
              ∙ lt-from (height R others u) (height R others v)
              (below R.kind (height R numbers u) (height R numbers v) (height R others u) (height R others v) (lawful.least u v e) changed.here there)

          same : B ≡ put_low R A v
          same = is-put_low R A B numbers others v (negsuc (rise R.kind - 1)) accepted tiling b heights q inner changed high out into

-- ---- a tiling doesn't stand both high and low

ring-cell : (k : Kind) (cells : List Cell) (v : Corner) → is_corner k v ≡ true → HasRing k cells v → (a : Cell) × In a cells × In v (corners k a)
ring-cell Square cells v e (p, q, (a, i, r, s), t) = (a, i, inl (corner-same v (corner a.r a.c) (omega (arith, r)) (omega (arith, s))))
ring-cell Triangle cells v e (p, q, t, (a, i, r, s), u, w) =
    let odd : (v.r + v.x) % 2 ≡ 1 = eqb-true _ _ e in
    let light : is_dark a ≡ false = light-from a (omega (arith, odd, r, s)) in
    (a, i, rw light (inl (corner-same v (corner a.r a.c) (omega (arith, r)) (omega (arith, s)))))

pub not-high-and-low : (R : Region) (A : List Tile) (v : Corner) → IsTrue (is_tiling R A) → stands_high R A v ≡ true → stands_low R A v ≡ true → ⊥
not-high-and-low R A v tiling high low = start (ring-cell R.kind R.cells v (and_parts _ _ inner).0 (inner-ring R v inner))
  where
    inner : is_inner R v ≡ true
    inner = (and_parts _ _ high).0

    outs : list_all (λ w. is_crossed R A (v, w)) (present (steps_out R.kind v)) ≡ true
    outs = sym (standing-crossed R A v tiling inner).0 ∙ high

    ins : list_all (λ u. is_crossed R A (u, v)) (present (steps_in R.kind v)) ≡ true
    ins = sym (standing-crossed R A v tiling inner).1 ∙ low

    meet : (a : Cell) → In a R.cells → (w : Corner) × In (v, w) (steps_round R.kind a) → (u : Corner) × In (u, v) (steps_round R.kind a) → ⊥
    meet a i (w, j) (u, k) = go (one-crossed R A (tiling-parts R A tiling) a i)
      where
        out : IsStepOut R.kind v w
        out = round-step R.kind a (v, w) j

        into : IsStepOut R.kind u v
        into = round-step R.kind a (u, v) k

        go : (e : Corner × Corner) × IsCrossing R A a e → ⊥
        go (e, c) =
            let first : ◌≡◌ {A = Corner × Corner} (v, w) e = c.only (v, w) j (In-list_all (λ w. is_crossed R A (v, w)) (present (steps_out R.kind v)) w outs out) in
            let second : ◌≡◌ {A = Corner × Corner} (u, v) e =
            c.only (u, v) k (In-list_all (λ u. is_crossed R A (u, v)) (present (steps_in R.kind v)) u ins (move-step_in R.kind u v (step-move R.kind u v into))) in
            let same : ◌≡◌ {A = Corner × Corner} (v, w) (u, v) = first ∙ sym second in
            let loop : IsStepOut R.kind v v = subst (λ (x : Corner). IsStepOut R.kind v x) (ap (λ (d : Corner × Corner). d.1) same) out in
            step-one_way R.kind v v loop loop

    start : (a : Cell) × In a R.cells × In v (corners R.kind a) → ⊥
    start (a, i, j) = let p = round-begins R.kind a v j in meet a i p.0 p.1

-- ---- flips

pub raised-flip : (R : Region) (A : List Tile) (numbers others : List ℤ) (v : Corner) → Accepted R → IsTrue (is_tiling R A) → AreHeights R A numbers
    → IsTrue (stands_low R A v) → IsChangedAt R numbers others v (pos (rise R.kind)) → IsTrue (is_tiling R (flip R A v)) × AreHeights R (flip R A v) others
raised-flip R A numbers others v accepted tiling heights low changed =
    let not_high : stands_high R A v ≡ false = false_from_ne_true (stands_high R A v) (λ h. not-high-and-low R A v tiling h low) in
    let same : put_high R A v ≡ flip R A v = ap (λ (t : Bool). cond t (put_low R A v) (put_high R A v)) (sym not_high) in
    let p = raised-put_high R A numbers others v accepted tiling heights low changed in
    (subst (λ (C : List Tile). IsTrue (is_tiling R C)) same p.0, subst (λ (C : List Tile). AreHeights R C others) same p.1)

pub lowered-flip : (R : Region) (A : List Tile) (numbers others : List ℤ) (v : Corner) → Accepted R → IsTrue (is_tiling R A) → AreHeights R A numbers
    → IsTrue (stands_high R A v) → IsChangedAt R numbers others v (negsuc (rise R.kind - 1)) → IsTrue (is_tiling R (flip R A v)) × AreHeights R (flip R A v) others
lowered-flip R A numbers others v accepted tiling heights high changed =
    let same : put_low R A v ≡ flip R A v = ap (λ (t : Bool). cond t (put_low R A v) (put_high R A v)) (sym high) in
    let p = lowered-put_low R A numbers others v accepted tiling heights high changed in
    (subst (λ (C : List Tile). IsTrue (is_tiling R C)) same p.0, subst (λ (C : List Tile). AreHeights R C others) same p.1)
