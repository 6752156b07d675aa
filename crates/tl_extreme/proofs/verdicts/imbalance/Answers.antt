use Rattle.std.proofs.Common.{◌≡◌, sym, ◌∙◌, ap, rules, w64}
use mir.Val.{SFits, to_z, of_z}
use Rattle.std.proofs.lemmas.Int.{to_z-of_z}
use Rattle.tl_extreme.proofs.VerdictLemmas.{open-reason}
use Rattle.tl_extreme.proofs.verdicts.imbalance.Goals as goal

pub returns-then-total-ne0 : goal.returns-then-total-ne0
returns-then-total-ne0 c =
    let fits : SFits w64 c.total-total.result = search rules in
    let is : to_z w64 (of_z w64 c.total-total.result) ≡ c.total-total.result = to_z-of_z w64 c.total-total.result fits in
    open-reason c.args.region.now c.rows.ensures.accepted (to_z w64 (of_z w64 c.total-total.result))
    (is ∙ c.total-total.ensures.total c.args.region.now c.rows.ensures.is_grid.placed c.requires)
    (λ e. c.if-total-ne0.true (ap (of_z w64) (sym is ∙ e)))
