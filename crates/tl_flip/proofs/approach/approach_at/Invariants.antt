use Rattle.std.proofs.Common.{◌≡◌, get_or, length}
use Rattle.std.specs.Prelude.{IsTrue}
use Rattle.std.specs.List.{list_all}
use Rattle.tl_definitions.specs.Region.{is_inner}
use Rattle.tl_flip.specs.Approach.{IsApproach}
use Rattle.tl_flip.proofs.Turns.{weight}
use Rattle.tl_flip.proofs.approach.approach_at.Given as goal

abbrev pub invariant-loop-corner : goal.invariant-loop-corner
invariant-loop-corner l = record {
  region : l.here.region ≡ l.target.region;
  inner : IsTrue (is_inner l.target.region l.corner);
  waiting : IsTrue (list_all (is_inner l.target.region) l.waiting.items);
  first : get_or l.waiting.items 0 l.corner ≡ l.fn.corner;
  approach : IsApproach l.way l.target.region l.target.numbers l.fn.here.numbers l.here.numbers l.fn.path.items l.path.items;
}

abbrev pub decreases-loop-corner : goal.decreases-loop-corner
decreases-loop-corner l = weight l.way l.target.region l.here.numbers l.target.numbers l.corner (length l.waiting.items)
