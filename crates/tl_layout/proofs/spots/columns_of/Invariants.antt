use Rattle.std.proofs.Common.{◌<◌, ◌≤◌, All, take}
use Rattle.tl_definitions.specs.declared.TheConstants.{SIDE_LIMIT}
use Rattle.tl_layout.specs.Layouts.{IsBetween}
use Rattle.tl_layout.proofs.spots.columns_of.Given as goal

abbrev pub invariant-loop-place : goal.invariant-loop-place
invariant-loop-place l = record {
  first : l.first ≤ SIDE_LIMIT;
  last : l.last < SIDE_LIMIT;
  between : All (IsBetween l.kind l.width l.first l.last) (take l.place-index l.places);
}
