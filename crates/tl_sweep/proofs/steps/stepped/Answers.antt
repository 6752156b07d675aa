use Rattle.std.proofs.Common.{◌≡◌, ◌+◌, ◌*◌, ◌%◌, ◌==◌, List, ℤ, length, refl, sym, ◌∙◌, ap, subst, arith, rules, w32}
use mir.Val.{SFits}
use Rattle.std.proofs.lemmas.Int.{to_z-of_z}
use Rattle.tl_definitions.specs.declared.Kind.TheVariants.{Square, Triangle}
use Rattle.tl_definitions.specs.Region.{Region}
use Rattle.tl_definitions.specs.Heights.{height_count}
use Rattle.tl_definitions.proofs.InnerNumbers.{inner-among}
use Rattle.tl_grid.specs.Grid.{IsGrid}
use Rattle.tl_sweep.specs.Places.{AreSmall, square_stepped, triangle_stepped}
use Rattle.tl_sweep.proofs.BlockCorners.{below-by, inner-around}
use Rattle.tl_sweep.proofs.Values.{lawful-small, square-stepped, triangle-stepped}
use Rattle.tl_sweep.proofs.steps.stepped.Goals as goal

pub overflow_add-corner : goal.overflow_add-corner
overflow_add-corner c =
    let a = inner-among c.args.heights.now.region c.args.corner c.region.ensures.accepted.placed c.requires in
    let grid : IsGrid c.args.heights.now.region = subst (λ (R : Region). IsGrid R) c.region.ensures.region c.columns.ensures.is_grid in
    omega (arith, a.row, a.column, grid.rows_within, grid.columns_within)

pub square_height-requires-clause-below : goal.square_height-requires-clause-below
square_height-requires-clause-below c =
    below-by c.args.corner c.columns.result c.args.heights.now.region.columns (height_count c.args.heights.now.region) (length c.numbers-numbers.result.now)
    (c.columns.ensures.columns ∙ ap (λ (R : Region). R.columns) c.region.ensures.region) (ap length c.numbers-numbers.ensures.numbers ∙ c.region.ensures.lawful.heights.count)
    (inner-around c.args.heights.now.region c.args.corner c.region.ensures.accepted.placed c.requires)

pub square_height-requires-clause-small : goal.square_height-requires-clause-small
square_height-requires-clause-small c =
    let grid : IsGrid c.args.heights.now.region = subst (λ (R : Region). IsGrid R) c.region.ensures.region c.columns.ensures.is_grid in
    subst (λ (l : List ℤ). AreSmall l) (sym c.numbers-numbers.ensures.numbers)
    (lawful-small c.args.heights.now.region c.args.heights.now.numbers c.region.ensures.accepted c.region.ensures.lawful grid.rows_within grid.columns_within)

pub triangle_height-requires-clause-below : goal.triangle_height-requires-clause-below
triangle_height-requires-clause-below c =
    below-by c.args.corner c.columns.result c.args.heights.now.region.columns (height_count c.args.heights.now.region) (length c.numbers-numbers.result.now)
    (c.columns.ensures.columns ∙ ap (λ (R : Region). R.columns) c.region.ensures.region) (ap length c.numbers-numbers.ensures.numbers ∙ c.region.ensures.lawful.heights.count)
    (inner-around c.args.heights.now.region c.args.corner c.region.ensures.accepted.placed c.requires)

pub triangle_height-requires-clause-small : goal.triangle_height-requires-clause-small
triangle_height-requires-clause-small c =
    let grid : IsGrid c.args.heights.now.region = subst (λ (R : Region). IsGrid R) c.region.ensures.region c.columns.ensures.is_grid in
    subst (λ (l : List ℤ). AreSmall l) (sym c.numbers-numbers.ensures.numbers)
    (lawful-small c.args.heights.now.region c.args.heights.now.numbers c.region.ensures.accepted c.region.ensures.lawful grid.rows_within grid.columns_within)

pub returns-in-Square : goal.returns-in-Square
returns-in-Square c =
    let R = c.args.heights.now.region in
    let v = c.args.corner in
    let e : c.columns.result ≡ R.columns = c.columns.ensures.columns ∙ ap (λ (R : Region). R.columns) c.region.ensures.region in
    let kind : R.kind ≡ Square = sym (c.in-Square.ensures ∙ ap (λ (R : Region). R.kind) c.region-2.ensures.region) in
    let fits : SFits w32 c.square_height.result = search rules in
    to_z-of_z w32 c.square_height.result fits ∙ c.square_height.ensures
    ∙ (λ i. square_stepped (c.numbers-numbers.ensures.numbers i) (e i + 2) (v.r * (e i + 2) + v.x) ((v.r + v.x) % 2 == 0) c.args.bit)
    ∙ sym (square-stepped R c.args.heights.now.numbers v ((v.r + v.x) % 2 == 0) c.args.bit kind c.region.ensures.accepted.placed c.requires refl)

pub returns-in-Triangle : goal.returns-in-Triangle
returns-in-Triangle c =
    let R = c.args.heights.now.region in
    let v = c.args.corner in
    let e : c.columns.result ≡ R.columns = c.columns.ensures.columns ∙ ap (λ (R : Region). R.columns) c.region.ensures.region in
    let kind : R.kind ≡ Triangle = sym (c.in-Triangle.ensures ∙ ap (λ (R : Region). R.kind) c.region-2.ensures.region) in
    let fits : SFits w32 c.triangle_height.result = search rules in
    to_z-of_z w32 c.triangle_height.result fits ∙ c.triangle_height.ensures
    ∙ (λ i. triangle_stepped (c.numbers-numbers.ensures.numbers i) (e i + 2) (v.r * (e i + 2) + v.x) c.args.bit)
    ∙ sym (triangle-stepped R c.args.heights.now.numbers v c.args.bit kind c.region.ensures.accepted.placed c.requires)
