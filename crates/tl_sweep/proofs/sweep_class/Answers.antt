use Rattle.std.proofs.Common.{◌≡◌, ◌+◌, ◌≤◌, ℕ, List, ℤ, length, sym, ◌∙◌, ap, subst, arith}
use Rattle.std.proofs.lemmas.List.{length-map}
use Rattle.tl_definitions.specs.Region.{Region, inner_corners}
use Rattle.tl_grid.specs.Survey.{inner_places, place_in}
use Rattle.tl_steps.specs.Stepping.{AreSwept, is_of_class}
use Rattle.tl_steps.proofs.Stated.{class-heights}
use Rattle.tl_definitions.specs.Lattice.{cell_width}
use Rattle.tl_sweep.specs.Blocks.{AreApart, is_between}
use Rattle.tl_sweep.proofs.Apart.{places-apart}
use Rattle.tl_sweep.specs.Sweeps.{bit_in}
use Rattle.tl_sweep.proofs.SomeCorners.{swept-all, swept-more}
use Rattle.tl_sweep.proofs.sweep_class.Goals as goal
use Rattle.tl_sweep.proofs.sweep_class.Goals.{After-rest}

pub rest-preserved : goal.rest-preserved
rest-preserved c =
    let R = c.args.heights.now.region in
    let k = c.args.class in
    let n = c.rest.number in
    let count = c.next_block-block.result.count in
    let bits = bit_in c.args.words.now in
    let here = subst (λ (S : Region). AreSwept S c.rest.heights.numbers c.step_block.new.heights.numbers bits (is_between S k c.next_block-block.result.number (c.next_block-block.result.number + count)))
    c.rest.invariant.region c.step_block.ensures.swept in
    let part : AreSwept R c.rest.heights.numbers c.step_block.new.heights.numbers bits (is_between R k n (n + count)) =
    subst (λ (m : ℕ). AreSwept R c.rest.heights.numbers c.step_block.new.heights.numbers bits (is_between R k m (m + count))) c.next_block-block.ensures.number here in
    record {
      region = c.step_block.ensures.region ∙ c.rest.invariant.region;
      within = c.next_block-block.ensures.block.within;
      swept = swept-more R k c.args.heights.now.numbers c.rest.heights.numbers c.step_block.new.heights.numbers bits n (n + count) (omega arith) c.rest.invariant.swept part;
    }

swept : (c : After-rest) → length c.inner_places-places.result.now ≤ c.rest.number
    → AreSwept c.args.heights.now.region c.args.heights.now.numbers c.rest.heights.numbers (bit_in c.args.words.now) (is_of_class c.args.heights.now.region c.args.class)
swept c over =
    let R = c.args.heights.now.region in
    let places : length c.inner_places-places.result.now ≡ length (inner_places R) = ap length (c.inner_places-places.ensures.places ∙ ap inner_places c.region-region.ensures.region) in
    swept-all R c.args.class c.args.heights.now.numbers c.rest.heights.numbers (bit_in c.args.words.now) c.rest.number c.region-region.ensures.accepted.placed
    (omega (arith, over, c.rest.invariant.within, places, length-map (inner_corners R) (place_in (R.columns + 2)))) c.rest.invariant.swept

pub returns-clause-swept : goal.returns-clause-swept
returns-clause-swept c = swept (goal.at.returns-clause-swept c).After-rest c.rest-test.false

pub returns-clause-tiling : goal.returns-clause-tiling
returns-clause-tiling c A tiling heights =
    (class-heights c.args.heights.now.region A c.args.heights.now.numbers c.rest.heights.numbers (bit_in c.args.words.now) c.args.class c.region-region.ensures.accepted (tiling, heights)
    (swept (goal.at.returns-clause-tiling c).After-rest c.rest-test.false)).1

pub next_block-block-requires-clause-apart : goal.next_block-block-requires-clause-apart
next_block-block-requires-clause-apart c =
    let same = c.inner_places-places.ensures.places ∙ ap inner_places c.region-region.ensures.region in
    let stride : c.cell_width-stride.result ≡ cell_width c.args.heights.now.region.kind = c.cell_width-stride.ensures ∙ ap cell_width (c.kind.ensures ∙ ap (λ (R : Region). R.kind) c.region-region.ensures.region) in
    subst (λ (n : ℕ). AreApart n c.inner_places-places.result.now) (sym stride)
    (subst (λ (l : List ℕ). AreApart (cell_width c.args.heights.now.region.kind) l) (sym same) (places-apart c.args.heights.now.region c.region-region.ensures.accepted.placed))
