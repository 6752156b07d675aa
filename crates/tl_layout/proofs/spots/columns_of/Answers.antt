use Rattle.std.proofs.Common.{◌≡◌, get_or, arith, rules}
use Rattle.tl_strings.specs.Strings.{column}
use Rattle.tl_layout.specs.Layouts.{corner_by}
use Rattle.tl_layout.proofs.Stood.{above-both, between-more}
use Rattle.tl_layout.proofs.spots.columns_of.Goals as goal

pub loop-place-preserved : goal.loop-place-preserved
loop-place-preserved c =
    let i = c.loop-place.place-index in
    let here : c.column_at-column.result ≡ column c.args.kind (corner_by c.args.width (get_or c.args.places.now i 0)) = search rules in
    record {
      first = omega (arith, c.min-first.ensures, c.loop-place.invariant.first);
      last = search rules;
      between = between-more c.args.kind c.args.width c.loop-place.first c.loop-place.last c.min-first.result c.max-last.result i c.args.places.now c.loop-place-test.true
          (omega (arith, c.min-first.ensures)) (above-both c.loop-place.last c.column_at-column.result c.max-last.result c.max-last.ensures).0 (omega (arith, c.min-first.ensures, here)) (omega (arith, (above-both c.loop-place.last c.column_at-column.result c.max-last.result c.max-last.ensures).1, here)) c.loop-place.invariant.between;
    }
