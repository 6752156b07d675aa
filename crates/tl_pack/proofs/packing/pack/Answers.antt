use Rattle.std.proofs.Common.{List, length, subst, ℤ}
use Rattle.tl_pack.specs.Packs.{ArePacked}
use Rattle.tl_pack.proofs.OfLattice.{region-corner}
use Rattle.tl_pack.proofs.Packed.{packed-holds, packed-only}
use Rattle.tl_pack.proofs.packing.pack.Goals as goal
use Rattle.tl_pack.proofs.packing.pack.Goals.{After-mark_all}

packed : (c : After-mark_all) → ArePacked c.args.layout.now c.args.class c.args.heights.now.numbers (length c.args.heights.now.numbers) c.mark_all.new.words
packed c =
    subst (λ (numbers : List ℤ). ArePacked c.args.layout.now c.args.class numbers (length numbers) c.mark_all.new.words) c.numbers-numbers.ensures.numbers c.mark_all.ensures.packed

pub returns-clause-holds : goal.returns-clause-holds
returns-clause-holds c v of_region of_class near within =
    packed-holds c.args.heights.now.region c.args.layout.now c.args.class c.args.heights.now.numbers c.mark_all.new.words c.requires.layout c.numbers-numbers.ensures.lawful.heights.count
    (packed (goal.at.returns-clause-holds c).After-mark_all) v of_region (region-corner c.args.heights.now.region v of_region) of_class near within

pub returns-clause-only : goal.returns-clause-only
returns-clause-only c row slot h t =
    packed-only c.args.heights.now.region c.args.layout.now c.args.class c.args.heights.now.numbers c.mark_all.new.words c.requires.layout c.numbers-numbers.ensures.lawful.heights.count
    (packed (goal.at.returns-clause-only c).After-mark_all) row slot h t
