use Rattle.std.proofs.Common.{◌≡◌, ◌∙◌, ap, not, Option, Some, None, false, map, List, refl, sym, subst, arith}
use Rattle.std.specs.Prelude.{is_some, IfSome, MatchOption}
use Rattle.tl_definitions.specs.Lattice.{Side}
use Rattle.tl_definitions.specs.Region.{corner_places}
use Rattle.tl_definitions.specs.Accepted.{is_pinch, InOnePart, IsCircuit}
use Rattle.tl_lists.proofs.Searches.{find-none_any}
use Rattle.tl_grid.specs.Sides.{side_by}
use Rattle.tl_region.proofs.rules.accepted.Goals as goal

none : {A : Type 0} (o : Option A) → is_some o ≡ false → o ≡ None
none None e = refl
none (Some x) e = cc e

pub one_circuit-requires-clause-no_pinch : goal.one_circuit-requires-clause-no_pinch
one_circuit-requires-clause-no_pinch c =
    let no : is_some c.in-Ok.survey.pinch ≡ false = c.is_none.ensures ∙ ap not c.if-is_none.true in
    find-none_any (is_pinch c.args.grid) (corner_places c.args.grid) (sym c.in-Ok.ensures.survey.pinch ∙ none c.in-Ok.survey.pinch no)

pub of-requires-in-Ok-Some-clause-accepted : goal.of-requires-in-Ok-Some-clause-accepted
of-requires-in-Ok-Some-clause-accepted c =
    let R = c.args.grid in
    let s = c.in-Ok.ensures.survey in
    let no : is_some c.in-Ok.survey.pinch ≡ false = c.is_none.ensures ∙ ap not c.if-is_none.true in
    let sides = c.in-Ok-Some.sides.items in
    record {
      placed = c.requires.placed;
      nonempty = c.requires.nonempty;
      joined = subst (λ o. IfSome o (λ steps. InOnePart R)) c.in-Ok-Some.field-0-is c.in-Ok-Some.ensures.one_part;
      no_pinch = find-none_any (is_pinch R) (corner_places R) (sym s.pinch ∙ none c.in-Ok.survey.pinch no);
      circuit = (
        map (side_by R.kind) sides,
        subst (λ o. MatchOption o (¬ ((walk : List Side) × IsCircuit R walk)) (λ steps. IsCircuit R (map (side_by R.kind) steps.items))) c.in-Ok-Some.field-0-is
            c.in-Ok-Some.ensures.circuit,
      );
      euler = omega (arith, c.if-from.true, c.from.ensures, c.from-then-is_none.ensures, c.from-then-is_none-2.ensures, c.cell_count-cells.ensures.count, s.corners, s.edges);
    }
