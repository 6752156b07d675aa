use Rattle.std.proofs.Common.{◌≡◌, ◌+◌, ◌-◌, ◌*◌, ◌%◌, ◌<◌, length, refl, sym, ◌∙◌, ap, subst, arith, List, ℕ, ℤ}
use Rattle.std.specs.Prelude.{◌==◌}
use Rattle.tl_definitions.specs.Lattice.{cell_width}
use Rattle.tl_definitions.specs.Region.{Region}
use Rattle.tl_definitions.specs.Heights.{height_count}
use Rattle.tl_grid.specs.Grid.{IsGrid}
use Rattle.tl_lists.specs.Lists.{put_at}
use Rattle.tl_steps.specs.Stepping.{AreSwept}
use Rattle.tl_sweep.specs.Blocks.{AreSteppedIn, is_between}
use Rattle.tl_sweep.specs.Places.{AreSmall, every_sixth}
use Rattle.tl_sweep.specs.Sweeps.{bit_in}
use Rattle.tl_sweep.proofs.BlockCorners.{first-around, last-around}
use Rattle.tl_sweep.proofs.KindParts.{triangle-part}
use Rattle.tl_sweep.proofs.Parts.{block-swept, part-within}
use Rattle.tl_sweep.proofs.SomeCorners.{between-class, some-lawful}
use Rattle.tl_sweep.proofs.Values.{lawful-small}
use Rattle.tl_sweep.proofs.triangles.step_in.Goals as goal
use Rattle.tl_sweep.proofs.triangles.step_in.Goals.{After-step_row}

pub step_row-requires-clause-above : goal.step_row-requires-clause-above
step_row-requires-clause-above c =
    let e : c.columns.result ≡ c.args.heights.now.region.columns = c.columns.ensures.columns ∙ ap (λ (R : Region). R.columns) c.region.ensures.region in
    let a = first-around c.args.heights.now.region c.region.ensures.accepted.placed c.args.block.number c.args.block.place c.args.block.count c.requires.block in
    omega (arith, a.above, e)

pub step_row-requires-clause-left : goal.step_row-requires-clause-left
step_row-requires-clause-left c =
    let a = first-around c.args.heights.now.region c.region.ensures.accepted.placed c.args.block.number c.args.block.place c.args.block.count c.requires.block in
    omega (arith, a.above)

pub step_row-requires-clause-below : goal.step_row-requires-clause-below
step_row-requires-clause-below c =
    let e : c.columns.result ≡ c.args.heights.now.region.columns = c.columns.ensures.columns ∙ ap (λ (R : Region). R.columns) c.region.ensures.region in
    let a = last-around c.args.heights.now.region c.region.ensures.accepted.placed c.args.block.number c.args.block.place c.args.block.count c.requires.block in
    let stride : cell_width c.args.heights.now.region.kind ≡ 2 = ap cell_width c.requires.kind in
    let last = subst (λ (s : ℕ). c.args.block.place + s * (c.args.block.count - 1) + (c.args.heights.now.region.columns + 2) + 2 < height_count c.args.heights.now.region) stride a.below in
    omega (arith, last, e, c.requires.room, c.requires.block.some, ap length c.numbers-numbers.ensures.numbers, c.region.ensures.lawful.heights.count)

pub step_row-requires-clause-small : goal.step_row-requires-clause-small
step_row-requires-clause-small c =
    let R = c.args.heights.now.region in
    let grid = subst (λ (R : Region). IsGrid R) c.region.ensures.region c.columns.ensures.is_grid in
    subst (λ (l : List ℤ). AreSmall l) (sym c.numbers-numbers.ensures.numbers) (lawful-small R c.args.heights.now.numbers c.region.ensures.accepted c.region.ensures.lawful grid.rows_within grid.columns_within)

part_of : (c : After-step_row) → AreSteppedIn c.args.heights.now.region c.args.heights.now.numbers (bit_in c.args.words.now) c.args.class c.args.block.number c.args.block.place c.args.block.count c.step_row.new.out
part_of c =
    let e : c.columns.result ≡ c.args.heights.now.region.columns = c.columns.ensures.columns ∙ ap (λ (R : Region). R.columns) c.region.ensures.region in
    triangle-part c.args.heights.now.region c.args.heights.now.numbers (bit_in c.args.words.now) c.args.class c.args.block.number c.args.block.place c.args.block.count c.step_row.new.out
    c.region.ensures.accepted.placed c.requires.block c.bits_from-bits.result (λ j h. ap (λ (n : ℕ). n == 1) (c.bits_from-bits.ensures j h)) (2 * ((2 * c.args.class + c.args.block.place % (c.args.heights.now.region.columns + 2)) % 3)) c.requires.kind c.requires.class refl
    (omega (arith, c.step_row.auto.out, c.requires.room))
    (λ t h. c.step_row.ensures t (omega (arith, h, c.step_row.auto.out))
    ∙ (λ i. every_sixth (c.numbers-numbers.ensures.numbers i) (e i + 2) c.args.block.place (2 * ((2 * c.args.class + c.args.block.place % (e i + 2)) % 3)) c.bits_from-bits.result t))

swept : (c : After-step_row) → AreSwept c.args.heights.now.region c.args.heights.now.numbers (put_at c.args.block.place c.step_row.new.out c.args.heights.now.numbers) (bit_in c.args.words.now)
    (is_between c.args.heights.now.region c.args.class c.args.block.number (c.args.block.number + c.args.block.count))
swept c =
    block-swept c.args.heights.now.region c.args.heights.now.numbers (bit_in c.args.words.now) c.args.class c.args.block.number c.args.block.place c.args.block.count c.step_row.new.out
    c.region.ensures.accepted.placed c.region.ensures.lawful.heights c.requires.block (part_of c)

pub put-requires-clause-within : goal.put-requires-clause-within
put-requires-clause-within c =
    part-within c.args.heights.now.region c.args.heights.now.numbers (bit_in c.args.words.now) c.args.class c.args.block.number c.args.block.place c.args.block.count c.step_row.new.out
    c.region.ensures.accepted.placed c.region.ensures.lawful.heights c.requires.block (part_of (goal.at.put-requires-clause-within c).After-step_row)

pub put-requires-clause-lawful : goal.put-requires-clause-lawful
put-requires-clause-lawful c =
    let R = c.args.heights.now.region in
    let n = c.args.block.number in
    some-lawful R c.args.class (is_between R c.args.class n (n + c.args.block.count)) (between-class R c.args.class n (n + c.args.block.count)) c.args.heights.now.numbers _ (bit_in c.args.words.now)
    c.region.ensures.accepted c.region.ensures.lawful (swept (goal.at.put-requires-clause-lawful c).After-step_row)

pub returns-clause-swept : goal.returns-clause-swept
returns-clause-swept c =
    let R = c.args.heights.now.region in
    let n = c.args.block.number in
    subst (λ (l : List ℤ). AreSwept R c.args.heights.now.numbers l (bit_in c.args.words.now) (is_between R c.args.class n (n + c.args.block.count)))
    (sym c.put.ensures.numbers) (swept (goal.at.returns-clause-swept c).After-step_row)
