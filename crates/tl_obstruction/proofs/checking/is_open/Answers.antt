use Rattle.std.proofs.Common.{w64, ◌≡◌, sym, ◌∙◌, ap, arith}
use mir.Val.{of_z}
use Rattle.std.proofs.lemmas.Bool.{eqb-true, eq-eqb}
use Rattle.std.proofs.lemmas.Int.{ints}
use Rattle.tl_definitions.specs.Obstruction.{total}
use Rattle.tl_obstruction.proofs.checking.is_open.Goals as goal

pub returns-then-total-ne0 : goal.returns-then-total-ne0
returns-then-total-ne0 c =
    let is : c.total.result ≡ total c.args.region.now = c.total.ensures.total c.args.region.now c.rows.ensures.accepted.placed c.requires in (
      λ e.
          let same : c.args.total ≡ c.total.result = omega (arith, ints, eqb-true _ _ e, c.ranges.total.sfits, c.total.type_inv) in
          (same ∙ is, λ z. c.if-total-ne0.true (ap (of_z w64) z)),
      λ p. eq-eqb _ _ (ap (of_z w64) (p.0 ∙ sym is)),
    )
