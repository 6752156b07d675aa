use Rattle.std.proofs.Common.{◌≡◌, Bool, true, false, List, Some, refl, sym, ◌∙◌, ap, subst}
use Rattle.std.specs.Prelude.{IsTrue, slice_get}
use Rattle.tl_definitions.specs.declared.Corner.{Corner}
use Rattle.tl_definitions.specs.declared.Tile.{Tile}
use Rattle.tl_definitions.specs.Region.{is_inner, inner_corners}
use Rattle.tl_definitions.specs.Tiling.{is_tiling}
use Rattle.tl_definitions.specs.Heights.{AreHeights}
use Rattle.tl_definitions.proofs.InnerNumbers.{inner-at}
use Rattle.tl_closing.specs.Standing.{falls_from, falls_to}
use Rattle.tl_height.specs.HeightFunction.{HeightFunction}
use Rattle.tl_height.specs.Standing.{standing}
use Rattle.tl_height.proofs.Rising.{from-told, to-told}
use Rattle.tl_height.proofs.StandingLemmas.{stands, standing-by}
use Rattle.tl_height.proofs.heights.Heights.standing.Goals as goal
use Rattle.tl_height.proofs.heights.Heights.standing.Goals.{After-inner-corner}

here : (c : After-inner-corner) → slice_get (inner_corners c.args.self.now.region) c.args.i ≡ Some c.inner-corner.result
here c = subst (λ (f : HeightFunction). slice_get (inner_corners f.region) c.args.i ≡ Some c.inner-corner.result) c.self.view_is c.inner-corner.ensures

inner : (c : After-inner-corner) → is_inner c.args.self.now.region c.inner-corner.result ≡ true
inner c = inner-at c.args.self.now.region c.inner-corner.result c.args.i (here c)

-- whatever the two searches find
answer : (c : After-inner-corner) (high low : Bool) → high ≡ falls_from c.args.self.now.region c.args.self.now.numbers c.inner-corner.result
    → low ≡ falls_to c.args.self.now.region c.args.self.now.numbers c.inner-corner.result
    → (A : List Tile) (v : Corner) → IsTrue (is_tiling c.args.self.now.region A) → AreHeights c.args.self.now.region A c.args.self.now.numbers
    → slice_get (inner_corners c.args.self.now.region) c.args.i ≡ Some v → stands high low ≡ standing c.args.self.now.region A v
answer c high low h l A v tiling heights at =
    let same : c.inner-corner.result ≡ v = cc (here c, at) in
    ap (λ (t : Bool). stands t low) h
    ∙ ap (λ (t : Bool). stands (falls_from c.args.self.now.region c.args.self.now.numbers c.inner-corner.result) t) l
    ∙ (sym (standing-by c.args.self.now.region A c.args.self.now.numbers c.inner-corner.result tiling heights (inner c)) ∙ ap (standing c.args.self.now.region A) same)

pub rising_from-requires : goal.rising_from-requires
rising_from-requires c = inner (goal.at.rising_from-requires c).After-inner-corner

pub rising_to-requires : goal.rising_to-requires
rising_to-requires c = inner (goal.at.rising_to-requires c).After-inner-corner

pub returns-then-is_none : goal.returns-then-is_none
returns-then-is_none c =
    let k = (goal.at.returns-then-is_none c).After-inner-corner in
    answer k true (falls_to c.args.self.now.region c.args.self.now.numbers c.inner-corner.result)
    (sym c.if-is_none.true ∙ from-told c.args.self.now.region c.args.self.now.numbers c.inner-corner.result c.is_none.result c.rising_from.result c.is_none.ensures c.rising_from.ensures) refl

pub returns-then-is_none-2 : goal.returns-then-is_none-2
returns-then-is_none-2 c =
    let k = (goal.at.returns-then-is_none-2 c).After-inner-corner in
    answer k false true
    (sym c.if-is_none.false ∙ from-told c.args.self.now.region c.args.self.now.numbers c.inner-corner.result c.is_none.result c.rising_from.result c.is_none.ensures c.rising_from.ensures)
    (sym c.if-is_none-2.true ∙ to-told c.args.self.now.region c.args.self.now.numbers c.inner-corner.result c.is_none-else-is_none.result c.rising_to.result c.is_none-else-is_none.ensures c.rising_to.ensures)

pub returns-else-is_none-2 : goal.returns-else-is_none-2
returns-else-is_none-2 c =
    let k = (goal.at.returns-else-is_none-2 c).After-inner-corner in
    answer k false false
    (sym c.if-is_none.false ∙ from-told c.args.self.now.region c.args.self.now.numbers c.inner-corner.result c.is_none.result c.rising_from.result c.is_none.ensures c.rising_from.ensures)
    (sym c.if-is_none-2.false ∙ to-told c.args.self.now.region c.args.self.now.numbers c.inner-corner.result c.is_none-else-is_none.result c.rising_to.result c.is_none-else-is_none.ensures c.rising_to.ensures)
