use Rattle.std.proofs.Common.{◌≡◌, ℕ, ◌<◌, [], Some}
use Rattle.std.specs.Prelude.{slice_get}
use Rattle.tl_definitions.specs.declared.Corner.{Corner}
use Rattle.tl_definitions.specs.Region.{inner_corners}
use Rattle.tl_flip.specs.Approach.{HasReached, IsApproach}
use Rattle.tl_flip.proofs.approach.approach.Given as goal

abbrev pub invariant-loop-i : goal.invariant-loop-i
invariant-loop-i l = record {
  region : l.here.region ≡ l.target.region;
  none_waits : l.waiting.items ≡ [];
  approach : IsApproach l.way l.target.region l.target.numbers l.fn.here.numbers l.here.numbers l.fn.path.items l.path.items;
  reached : (k : ℕ) (v : Corner) → k < l.i → slice_get (inner_corners l.target.region) k ≡ Some v → HasReached l.way l.target.region l.here.numbers l.target.numbers v;
}
