-- The classes of a sweep, one after the other.
use Rattle.std.proofs.Common.{◌≡◌, ℕ, Bool, List, [], ◌∷◌, refl, sym, subst, ℤ}
use Rattle.std.specs.Prelude.{fold}
use Rattle.tl_definitions.specs.declared.Kind.{Kind}
use Rattle.tl_definitions.specs.declared.Kind.TheVariants.{Square, Triangle}
use Rattle.tl_definitions.specs.declared.Tile.{Tile}
use Rattle.tl_definitions.specs.Lattice.{classes}
use Rattle.tl_definitions.specs.Region.{Region}
use Rattle.tl_definitions.specs.Accepted.{Accepted}
use Rattle.tl_definitions.specs.Sweep.{sweep_class}
use Rattle.tl_lists.specs.Lists.{upto}
use Rattle.tl_steps.specs.Stepping.{AreSwept, is_of_class}
use Rattle.tl_steps.proofs.Stated.{HasHeights, class-heights}
use Rattle.tl_sweep.specs.Sweeps.{AreSweptInTurn, AreWhollySwept}

pub turns-heights : (R : Region) (bits : ℕ → Bool) (ks : List ℕ) (A : List Tile) (numbers others : List ℤ) → Accepted R → HasHeights R A numbers
    → AreSweptInTurn R bits ks numbers others → HasHeights R (fold (λ B k. sweep_class R bits k B) A ks) others
turns-heights R bits [] A numbers others accepted has same = subst (λ (l : List ℤ). HasHeights R A l) (sym same) has
turns-heights R bits (k ∷ ks) A numbers others accepted has (middle, first, rest) =
    turns-heights R bits ks (sweep_class R bits k A) middle others accepted (class-heights R A numbers middle bits k accepted has first) rest

pub two-turns : (R : Region) (bits : ℕ → Bool) (numbers middle others : List ℤ) → R.kind ≡ Square → AreSwept R numbers middle bits (is_of_class R 0)
    → AreSwept R middle others bits (is_of_class R 1) → AreWhollySwept R bits numbers others
two-turns R bits numbers middle others kind first second =
    subst (λ (k : Kind). AreSweptInTurn R bits (upto (classes k)) numbers others) (sym kind) (middle, first, (others, second, refl))

pub three-turns : (R : Region) (bits : ℕ → Bool) (numbers middle later others : List ℤ) → R.kind ≡ Triangle → AreSwept R numbers middle bits (is_of_class R 0)
    → AreSwept R middle later bits (is_of_class R 1) → AreSwept R later others bits (is_of_class R 2) → AreWhollySwept R bits numbers others
three-turns R bits numbers middle later others kind first second third =
    subst (λ (k : Kind). AreSweptInTurn R bits (upto (classes k)) numbers others) (sym kind) (middle, first, (later, second, (others, third, refl)))
