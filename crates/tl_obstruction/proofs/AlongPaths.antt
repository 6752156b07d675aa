-- Along a directed path lawful heights rise by no more than it has steps. So a region with an obstruction has no tiling.
use Rattle.std.proofs.Common.{◌≡◌, ℕ, true, List, [], ◌∷◌, length, get_or, Some, sym, ◌∙◌, ap, arith, ℤ, pos, ◌+ℤ◌, ◌≤ℤ◌, ◌<◌}
use Rattle.std.specs.Prelude.{slice_get, IsTrue}
use Rattle.std.specs.List.{last_or}
use Rattle.std.proofs.lemmas.Bool.{and_parts}
use Rattle.std.proofs.lemmas.Int.{ints}
use Rattle.std.proofs.lemmas.List.{length-map}
use Rattle.std.proofs.lemmas.Option.{slice_get-get_or}
use Rattle.tl_lists.specs.Lists.{linked}
use Rattle.tl_definitions.specs.declared.Corner.{Corner}
use Rattle.tl_definitions.specs.declared.Tile.{Tile}
use Rattle.tl_definitions.specs.Lattice.{corner, Side}
use Rattle.tl_definitions.specs.Region.{Region, is_step}
use Rattle.tl_definitions.specs.Accepted.{Accepted, circuit_corners}
use Rattle.tl_definitions.specs.Tiling.{is_tiling}
use Rattle.tl_definitions.specs.Obstruction.{Obstruction, Open, Gap, IsGap, IsObstruction}
use Rattle.tl_definitions.specs.Heights.{height, AreHeights, AreLawful}
use Rattle.tl_closing.proofs.Stated.{has-heights, heights-lawful}

pub along-path : (R : Region) (numbers : List ℤ) → AreLawful R numbers → (path : List Corner) (u v : Corner) → linked (is_step R) (u ∷ path) ≡ true
    → last_or (Some u) path ≡ Some v → height R numbers v ≤ℤ (height R numbers u +ℤ pos (length path))
along-path R numbers lawful [] u v l e =
    let same : u ≡ v = cc e in
    let here : height R numbers v ≡ height R numbers u = ap (height R numbers) (sym same) in omega (arith, ints, here)
along-path R numbers lawful (w ∷ path) u v l e =
    let p = and_parts (is_step R u w) (linked (is_step R) (w ∷ path)) l in
    let step = lawful.least u w p.0 in
    let rest = along-path R numbers lawful path w v p.1 e in
    omega (arith, ints, step, rest)

pub corner-on : (walk : List Side) (k : ℕ) → k < length walk → slice_get (circuit_corners walk) k ≡ Some (get_or (circuit_corners walk) k (corner 0 0))
corner-on walk k h = slice_get-get_or (circuit_corners walk) k (corner 0 0) (omega (arith, h, length-map walk (λ (s : Side). s.from)))

no-gap : (R : Region) (numbers : List ℤ) → AreLawful R numbers → (rise : ℤ) (path : List Corner) → IsGap R rise path → ⊥
no-gap R numbers lawful rise [] gap = cc (gap.begins, corner-on gap.walk gap.k gap.k_on_circuit)
no-gap R numbers lawful rise (u ∷ path) gap =
    let v = get_or (circuit_corners gap.walk) gap.l (corner 0 0) in
    let at = corner-on gap.walk gap.l gap.l_on_circuit in
    let low = lawful.boundary gap.walk gap.k u gap.circuit (sym gap.begins) in
    let high = lawful.boundary gap.walk gap.l v gap.circuit at in
    let rises = along-path R numbers lawful path u v gap.directed (gap.ends ∙ at) in
    omega (arith, ints, low, high, rises, gap.too_steep, gap.difference)

pub no-tiling : (R : Region) → Accepted R → (o : Obstruction) → IsObstruction R o → (A : List Tile) → ¬ IsTrue (is_tiling R A)
no-tiling R accepted o obstructed A tiling = go (has-heights R A accepted tiling)
  where
    against : (o : Obstruction) → IsObstruction R o → (numbers : List ℤ) → AreLawful R numbers → ⊥
    against (Open n) p numbers lawful = p.1 (p.0 ∙ lawful.balanced)
    against (Gap rise path) gap numbers lawful = no-gap R numbers lawful rise path gap

    go : (numbers : List ℤ) × AreHeights R A numbers × ((others : List ℤ) → AreHeights R A others → others ≡ numbers) → ⊥
    go (numbers, h, one) = against o obstructed numbers (heights-lawful R A numbers accepted tiling h)
