-- The places on the circuit of the first and the last corner of a path.
use Rattle.std.proofs.Common.{◌≡◌, ℕ, ◌-◌, ◌≤◌, true, List, [], ◌∷◌, length, get_or, Some, sym, ◌∙◌, arith}
use Rattle.std.specs.Prelude.{slice_get, position}
use Rattle.std.proofs.lemmas.Option.{slice_get-get_or}
use Rattle.tl_lists.specs.Lists.{distinct}
use Rattle.tl_lists.proofs.Distinct.{Distinct-from}
use Rattle.tl_definitions.specs.declared.Corner.{Corner}
use Rattle.tl_definitions.specs.Lattice.{corner, corner_eq, Side}
use Rattle.tl_definitions.specs.Accepted.{circuit_corners}
use Rattle.tl_definitions.proofs.Corners.{corner_eq-refl}
use Rattle.tl_obstruction.proofs.AlongPaths.{corner-on}
use Rattle.tl_obstruction.proofs.Gaps.{corner-place, last-at}
use Rattle.tl_extreme.specs.Undercuts.{AreEndsAt}

module _ (walk : List Side) (once : distinct corner_eq (circuit_corners walk) ≡ true) (path : List Corner) (k l : ℕ) (ends : AreEndsAt walk path k l) where
  pub ends-some : 1 ≤ length path
  ends-some = go path ends.begins
    where
      go : (p : List Corner) → slice_get p 0 ≡ slice_get (circuit_corners walk) k → 1 ≤ length p
      go [] e = absurd (cc (e, corner-on walk k ends.k_on_circuit))
      go (v ∷ p) e = omega arith

  pub first-place : position (corner_eq (get_or path 0 (corner 0 0))) (circuit_corners walk) ≡ Some k
  first-place =
      corner-place (circuit_corners walk) k (get_or path 0 (corner 0 0)) (Distinct-from corner_eq corner_eq-refl (circuit_corners walk) once)
      (sym ends.begins ∙ slice_get-get_or path 0 (corner 0 0) ends-some)

  pub last-place : position (corner_eq (get_or path (length path - 1) (corner 0 0))) (circuit_corners walk) ≡ Some l
  last-place =
      corner-place (circuit_corners walk) l (get_or path (length path - 1) (corner 0 0)) (Distinct-from corner_eq corner_eq-refl (circuit_corners walk) once)
      (sym ends.ends ∙ last-at path (get_or path (length path - 1) (corner 0 0)) (slice_get-get_or path (length path - 1) (corner 0 0) (omega (arith, ends-some))))
