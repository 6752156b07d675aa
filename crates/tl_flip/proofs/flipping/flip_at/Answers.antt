use Rattle.std.proofs.Common.{◌≡◌, true, ◌||◌, sym, ◌∙◌, ap}
use Rattle.tl_definitions.specs.Region.{Region, is_inner}
use Rattle.tl_height.proofs.Rising.{from-told, to-told}
use Rattle.tl_flip.proofs.OneFlip.{can-by, can-lowered, can-raised, lowered-tiling, raised-tiling}
use Rattle.tl_flip.proofs.flipping.flip_at.Goals as goal
use Rattle.tl_flip.proofs.flipping.flip_at.Goals.{After-rising_to}

inner : (c : After-rising_to) → is_inner c.args.heights.now.region c.args.corner ≡ true
inner c = ap (λ (R : Region). is_inner R c.args.corner) (sym c.region.ensures.region) ∙ sym c.is_inner.ensures ∙ c.if-not-is_inner.false

pub returns-then-is_none-clause-lawful : goal.returns-then-is_none-clause-lawful
returns-then-is_none-clause-lawful c A tiled =
    let k = (goal.at.returns-then-is_none-clause-lawful c).After-rising_to in
    let R = c.args.heights.now.region in
    let falls = sym (to-told R c.args.heights.now.numbers c.args.corner c.is_none.result c.rising_to.result c.is_none.ensures c.rising_to.ensures) ∙ c.if-is_none.true in
    sym (can-raised R c.args.heights.now.numbers c.args.corner A tiled (inner k) falls)

pub returns-then-is_none-clause-flipped : goal.returns-then-is_none-clause-flipped
returns-then-is_none-clause-flipped c _ A tiled =
    let k = (goal.at.returns-then-is_none-clause-flipped c).After-rising_to in
    let R = c.args.heights.now.region in
    let falls = sym (to-told R c.args.heights.now.numbers c.args.corner c.is_none.result c.rising_to.result c.is_none.ensures c.rising_to.ensures) ∙ c.if-is_none.true in
    raised-tiling R c.args.heights.now.numbers c.args.corner c.raise.new.self.numbers A c.region.ensures.accepted tiled (inner k) falls c.raise.ensures.raised

pub returns-then-is_none-2-clause-lawful : goal.returns-then-is_none-2-clause-lawful
returns-then-is_none-2-clause-lawful c A tiled =
    let k = (goal.at.returns-then-is_none-2-clause-lawful c).After-rising_to in
    let R = c.args.heights.now.region in
    let falls = sym (from-told R c.args.heights.now.numbers c.args.corner c.is_none-else-is_none.result c.rising_from.result c.is_none-else-is_none.ensures c.rising_from.ensures) ∙ c.if-is_none-2.true in
    sym (can-lowered R c.args.heights.now.numbers c.args.corner A tiled (inner k) falls)

pub returns-then-is_none-2-clause-flipped : goal.returns-then-is_none-2-clause-flipped
returns-then-is_none-2-clause-flipped c _ A tiled =
    let k = (goal.at.returns-then-is_none-2-clause-flipped c).After-rising_to in
    let R = c.args.heights.now.region in
    let falls = sym (from-told R c.args.heights.now.numbers c.args.corner c.is_none-else-is_none.result c.rising_from.result c.is_none-else-is_none.ensures c.rising_from.ensures) ∙ c.if-is_none-2.true in
    lowered-tiling R c.args.heights.now.numbers c.args.corner c.lower.new.self.numbers A c.region.ensures.accepted tiled (inner k) falls c.lower.ensures.lowered

pub returns-else-is_none-2-clause-lawful : goal.returns-else-is_none-2-clause-lawful
returns-else-is_none-2-clause-lawful c A tiled =
    let k = (goal.at.returns-else-is_none-2-clause-lawful c).After-rising_to in
    let R = c.args.heights.now.region in
    let no_rise = sym (to-told R c.args.heights.now.numbers c.args.corner c.is_none.result c.rising_to.result c.is_none.ensures c.rising_to.ensures) ∙ c.if-is_none.false in
    let no_fall = sym (from-told R c.args.heights.now.numbers c.args.corner c.is_none-else-is_none.result c.rising_from.result c.is_none-else-is_none.ensures c.rising_from.ensures) ∙ c.if-is_none-2.false in
    sym (can-by R c.args.heights.now.numbers c.args.corner A tiled (inner k) ∙ (λ i. no_fall i || no_rise i))
