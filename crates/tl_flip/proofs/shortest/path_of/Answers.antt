use Rattle.std.proofs.Common.{[], List, sym, subst}
use Rattle.tl_definitions.specs.declared.Corner.{Corner}
use Rattle.tl_definitions.specs.Region.{Region}
use Rattle.tl_definitions.specs.Heights.{AreLawful}
use Rattle.tl_height.specs.HeightFunction.{HeightFunction}
use Rattle.tl_flip.specs.Flips.{IsDistanceBetween, IsShortestBetween}
use Rattle.tl_flip.specs.Approach.{AreTwo, IsApproach}
use Rattle.tl_flip.specs.declared.direction.Direction.TheVariants.{Up}
use Rattle.tl_flip.proofs.ShortestPaths.{path-length, path-shortest}
use Rattle.tl_flip.proofs.shortest.path_of.Goals as goal
use Rattle.tl_flip.proofs.shortest.path_of.Goals.{In_ok-approach}

two : (c : In_ok-approach) → AreTwo c.args.b.now.region c.args.a.now.numbers c.args.b.now.numbers
two c = record {
  accepted = c.region-2.ensures.accepted;
  first = subst (λ (R : Region). AreLawful R c.args.a.now.numbers) c.requires.region c.region.ensures.lawful;
  second = c.region-2.ensures.lawful;
}

up : (c : In_ok-approach) → IsApproach Up c.args.b.now.region c.args.b.now.numbers c.args.a.now.numbers c.approach.new.here.numbers [] c.approach.new.path.items
up c =
    subst (λ (vs : List Corner). IsApproach Up c.args.b.now.region c.args.b.now.numbers c.args.a.now.numbers c.approach.new.here.numbers vs c.approach.new.path.items) c.in_ok-path.ensures.items
    (subst (λ (f : HeightFunction). IsApproach Up c.args.b.now.region c.args.b.now.numbers f.numbers c.approach.new.here.numbers c.in_ok-path.path.items c.approach.new.path.items) c.in_ok-here.ensures c.in_ok-approach.ensures.approach)

pub returns-clause-shortest : goal.returns-clause-shortest
returns-clause-shortest c =
    let k = (goal.at.returns-clause-shortest c).In_ok-approach in
    subst (λ (R : Region). IsShortestBetween R c.args.a.now.numbers c.args.b.now.numbers c.approach-2.new.path.items) (sym c.requires.region)
    (path-shortest c.args.b.now.region c.args.a.now.numbers c.args.b.now.numbers c.approach.new.here.numbers c.approach-2.new.here.numbers c.approach.new.path.items c.approach-2.new.path.items
    (two k) (up k) c.in_ok-approach.ensures.reached c.in_ok-approach-2.ensures.approach c.in_ok-approach-2.ensures.reached)

pub returns-clause-length : goal.returns-clause-length
returns-clause-length c =
    let k = (goal.at.returns-clause-length c).In_ok-approach in
    path-length c.args.b.now.region c.args.a.now.numbers c.args.b.now.numbers c.approach.new.here.numbers c.approach-2.new.here.numbers c.approach.new.path.items c.approach-2.new.path.items
    (two k) (up k) c.in_ok-approach.ensures.reached c.in_ok-approach-2.ensures.approach c.in_ok-approach-2.ensures.reached c.args.flips
    (subst (λ (R : Region). IsDistanceBetween R c.args.a.now.numbers c.args.b.now.numbers c.args.flips) c.requires.region c.requires.flips)
