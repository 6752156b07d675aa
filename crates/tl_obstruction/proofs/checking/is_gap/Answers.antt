use Rattle.std.proofs.Common.{w64, ◌≡◌, ◌-◌, length, sym, ◌∙◌, ap, arith, pos, ◌<ℤ◌}
use mir.Val.{of_z}
use Rattle.std.proofs.lemmas.Bool.{eqb-false}
use Rattle.std.proofs.lemmas.Int.{ints}
use Rattle.tl_obstruction.proofs.Gaps.{gap-from, first-place, last-place, gap-rise}
use Rattle.tl_obstruction.proofs.checking.is_gap.Goals as goal

pub returns-in_default : goal.returns-in_default
returns-in_default c = (
  λ e. cc e,
  λ gap. cc (
    c.place_of.ensures,
    c.in_default.is,
    first-place c.args.region.now c.args.circuit.now c.args.rise c.args.path.now c.requires c.rows.ensures.accepted (omega (arith, eqb-false (length c.args.path.now) 0 (sym c.if-is_empty.ensures))) gap,
  ),
)

pub returns-in_default-place_of : goal.returns-in_default-place_of
returns-in_default-place_of c = (
  λ e. cc e,
  λ gap. cc (
    c.place_of-2.ensures,
    c.in_default-place_of.is,
    last-place c.args.region.now c.args.circuit.now c.args.rise c.args.path.now c.requires c.rows.ensures.accepted (omega (arith, eqb-false (length c.args.path.now) 0 (sym c.if-is_empty.ensures))) gap,
  ),
)

pub returns-then-rise-rise_between : goal.returns-then-rise-rise_between
returns-then-rise-rise_between c = (
  λ e. cc e,
  λ gap. absurd (c.if-rise-rise_between.true (ap (of_z w64) (
      gap-rise c.args.region.now c.args.circuit.now c.args.rise c.args.path.now c.requires c.rows.ensures.accepted (omega (arith, eqb-false (length c.args.path.now) 0 (sym c.if-is_empty.ensures))) gap
      c.in-Some.k c.in-Some-place_of.l c.in-Some.ensures c.in-Some-place_of.ensures ∙ sym c.rise_between.ensures))),
)

pub returns-then-rise-steps : goal.returns-then-rise-steps
returns-then-rise-steps c =
    let rise_is : c.args.rise ≡ c.rise_between.result = omega (arith, ints, c.if-rise-rise_between.false, c.ranges.rise.sfits, c.rise_between.type_inv) in
    let steep : pos (length c.args.path.now - 1) <ℤ c.args.rise = omega (arith, ints, c.if-rise-steps.true) in (
      λ e. gap-from c.args.region.now c.args.circuit.now c.args.rise c.args.path.now c.requires c.rows.ensures.accepted (omega (arith, eqb-false (length c.args.path.now) 0 (sym c.if-is_empty.ensures)))
          c.in-Some.k c.in-Some-place_of.l c.in-Some.ensures c.in-Some-place_of.ensures (rise_is ∙ c.rise_between.ensures) steep (sym c.is_directed.ensures ∙ e),
      λ gap. c.is_directed.ensures ∙ gap.directed,
    )
