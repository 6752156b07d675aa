use Rattle.std.proofs.Common.{w32, ◌≡◌, ◌⊎◌, inl, inr, ◌-◌, ℤ, Bool, true, false, cond, refl, sym, ◌∙◌, ap, arith, pos, ◌-ℤ◌, ◌+ℤ◌, neg_ℤ}
use mir.Val.{to_z, of_z}
use Rattle.std.proofs.lemmas.Int.{ints}
use Rattle.tl_definitions.specs.declared.Kind.{Kind}
use Rattle.tl_definitions.specs.declared.Kind.TheVariants.{Square, Triangle}
use Rattle.tl_definitions.specs.Lattice.{corner, rise, cell_width}
use Rattle.tl_definitions.specs.Region.{Region}
use Rattle.tl_definitions.specs.Heights.{height}
use Rattle.tl_closing.proofs.Stated.{leads_right}
use Rattle.tl_height.proofs.FillLemmas.{same_parity, rise-told}
use Rattle.tl_height.proofs.filling.rise_from_left.Goals as goal
use Rattle.tl_height.proofs.filling.rise_from_left.Goals.{in-Square, in-Triangle, then-eq, else-eq}

narrow : (k : Kind) → (rise k ≡ 4) ⊎ (rise k ≡ 3)
narrow Square = inl refl
narrow Triangle = inr refl

fall-read : (k l : Kind) (z : ℤ) → z ≡ pos (rise k) → k ≡ l → to_z w32 (of_z w32 (pos 1 -ℤ to_z w32 (of_z w32 z))) ≡ pos 1 -ℤ pos (rise l)
fall-read k l z e f = elim (narrow k) [ inl n ↦ omega (arith, ints, e, n, ap rise f) | inr n ↦ omega (arith, ints, e, n, ap rise f) ]

turned : (k : Kind) (t : Bool) (z : ℤ) → z ≡ cond t (pos 1 -ℤ pos (rise k)) (pos 1) → neg_ℤ z ≡ to_z w32 (of_z w32 (pos 0 -ℤ z))
turned k true z e = elim (narrow k) [ inl n ↦ omega (arith, ints, e, n) | inr n ↦ omega (arith, ints, e, n) ]
turned k false z e = omega (arith, ints, e)

pub returns-then-leads_right-clause-rise : goal.returns-then-leads_right-clause-rise
returns-then-leads_right-clause-rise c numbers h =
    let R = c.args.tiling.now.region in
    let kind : c.kind-kind.result ≡ R.kind = c.kind-kind.ensures ∙ ap (λ (r : Region). r.kind) c.region.ensures.region in
    let wide : c.cell_width-width.result ≡ cell_width R.kind = c.cell_width-width.ensures ∙ ap cell_width kind in
    let right : c.match-kind.leads_right ≡ leads_right R.kind c.args.corner =
    elim c.match-kind.branch [
      | in-Square w ↦ w.leads_right-is ∙ (same_parity c.args.corner.r c.args.corner.x ∙ ap (λ (k : Kind). leads_right k c.args.corner) (sym w.in-Square.is ∙ kind))
      | in-Triangle w ↦ w.leads_right-is ∙ ap (λ (k : Kind). leads_right k c.args.corner) (sym w.in-Triangle.is ∙ kind)
    ] in
    let climb : to_z w32 c.if-eq.climb-bits ≡ cond c.eq.result (pos 1 -ℤ pos (rise R.kind)) (pos 1) =
    elim c.if-eq.branch [
      | then-eq w ↦ w.climb-is ∙ (fall-read c.kind-kind.result R.kind w.rise.result w.rise.ensures kind ∙ sym (ap (λ (b : Bool). cond b (pos 1 -ℤ pos (rise R.kind)) (pos 1)) w.if-eq.true))
      | else-eq w ↦ w.climb-is ∙ sym (ap (λ (b : Bool). cond b (pos 1 -ℤ pos (rise R.kind)) (pos 1)) w.if-eq.false)
    ] in
    rise-told R c.args.tiling.now.tiles numbers c.region.ensures.tiling h c.args.corner c.requires c.cell_width-width.result true c.eq.result c.partner.result (to_z w32 c.if-eq.climb-bits)
    wide (sym c.if-leads_right.true ∙ right) c.partner.ensures c.eq.ensures climb

pub returns-else-leads_right-clause-rise : goal.returns-else-leads_right-clause-rise
returns-else-leads_right-clause-rise c numbers h =
    let R = c.args.tiling.now.region in
    let kind : c.kind-kind.result ≡ R.kind = c.kind-kind.ensures ∙ ap (λ (r : Region). r.kind) c.region.ensures.region in
    let wide : c.cell_width-width.result ≡ cell_width R.kind = c.cell_width-width.ensures ∙ ap cell_width kind in
    let right : c.match-kind.leads_right ≡ leads_right R.kind c.args.corner =
    elim c.match-kind.branch [
      | in-Square w ↦ w.leads_right-is ∙ (same_parity c.args.corner.r c.args.corner.x ∙ ap (λ (k : Kind). leads_right k c.args.corner) (sym w.in-Square.is ∙ kind))
      | in-Triangle w ↦ w.leads_right-is ∙ ap (λ (k : Kind). leads_right k c.args.corner) (sym w.in-Triangle.is ∙ kind)
    ] in
    let climb : to_z w32 c.if-eq.climb-bits ≡ cond c.eq.result (pos 1 -ℤ pos (rise R.kind)) (pos 1) =
    elim c.if-eq.branch [
      | then-eq w ↦ w.climb-is ∙ (fall-read c.kind-kind.result R.kind w.rise.result w.rise.ensures kind ∙ sym (ap (λ (b : Bool). cond b (pos 1 -ℤ pos (rise R.kind)) (pos 1)) w.if-eq.true))
      | else-eq w ↦ w.climb-is ∙ sym (ap (λ (b : Bool). cond b (pos 1 -ℤ pos (rise R.kind)) (pos 1)) w.if-eq.false)
    ] in
    let here =
    rise-told R c.args.tiling.now.tiles numbers c.region.ensures.tiling h c.args.corner c.requires c.cell_width-width.result false c.eq.result c.partner.result (to_z w32 c.if-eq.climb-bits)
    wide (sym c.if-leads_right.false ∙ right) c.partner.ensures c.eq.ensures climb in
    here ∙ ap (λ (z : ℤ). height R numbers (corner c.args.corner.r (c.args.corner.x - cell_width R.kind)) +ℤ z) (turned R.kind c.eq.result (to_z w32 c.if-eq.climb-bits) climb)
