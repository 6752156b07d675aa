-- A path up and then down that ends at the target's heights is shortest.
use Rattle.std.proofs.Common.{◌≡◌, ℕ, ◌+◌, ◌*◌, ◌≤◌, true, List, [], length, refl, ◌∙◌, subst, arith, ℤ, neg_ℤ, ◌≤ℤ◌}
use Rattle.std.specs.Prelude.{IsTrue}
use Rattle.std.proofs.lemmas.Int.{ints}
use Rattle.tl_definitions.specs.declared.Corner.{Corner}
use Rattle.tl_definitions.specs.declared.Kind.{Kind}
use Rattle.tl_definitions.specs.declared.Kind.TheVariants.{Square, Triangle}
use Rattle.tl_definitions.specs.declared.Tile.{Tile}
use Rattle.tl_definitions.specs.Lattice.{rise}
use Rattle.tl_definitions.specs.Region.{Region, is_corner_of}
use Rattle.tl_definitions.specs.Tiling.{is_tiling}
use Rattle.tl_definitions.specs.Heights.{height, AreHeights}
use Rattle.tl_definitions.specs.Flip.{IsFlipPath, IsFlipDistance, IsShortestFlipPath}
use Rattle.tl_closing.proofs.Stated.{has-tiling, same-heights}
use Rattle.tl_lawful.specs.HeightGap.{height_gap}
use Rattle.tl_lawful.proofs.Stated.{agreeing-gap, distance}
use Rattle.tl_flip.specs.Flips.{IsDistanceBetween, IsShortestBetween, IsTilingOf}
use Rattle.tl_flip.specs.Approach.{AreTwo, HasReached, IsApproach}
use Rattle.tl_flip.specs.declared.direction.Direction.TheVariants.{Up, Down}

module _ (R : Region) (a b mid end : List ℤ) (half path : List Corner) (two : AreTwo R a b) (up : IsApproach Up R b a mid [] half) (high : (v : Corner) → IsTrue (is_corner_of R v) → HasReached Up R mid b v) (down : IsApproach Down R b mid end half path) (low : (v : Corner) → IsTrue (is_corner_of R v) → HasReached Down R end b v) where
  agree : (v : Corner) → is_corner_of R v ≡ true → height R end v ≡ height R b v
  agree v of_region = meet (height R mid v) (height R end v) (height R b v) (high v of_region) (down.never_past v of_region) (low v of_region)
    where
      meet : (x y z : ℤ) → z ≤ℤ x → (neg_ℤ x ≤ℤ neg_ℤ z → neg_ℤ y ≤ℤ neg_ℤ z) → neg_ℤ z ≤ℤ neg_ℤ y → y ≡ z
      meet x y z l m n = let p = m (omega (arith, ints, l)) in omega (arith, ints, p, n)

  whole-gap : height_gap a b ≡ rise R.kind * length path
  whole-gap = sums R.kind (height_gap a b) (height_gap mid b) (height_gap end b) (length half) (length path) (agreeing-gap R end b two.accepted down.lawful two.second agree) up.gap down.gap
    where
      sums : (k : Kind) (g h e m n : ℕ) → e ≡ 0 → h + rise k * m ≡ g + rise k * 0 → e + rise k * n ≡ h + rise k * m → g ≡ rise k * n
      sums Square g h e m n p q r = omega (arith, p, q, r)
      sums Triangle g h e m n p q r = omega (arith, p, q, r)

  path-leads : (A B : List Tile) → IsTilingOf R a A → IsTilingOf R b B → IsFlipPath R A path B
  path-leads A B a_tiled b_tiled = go (up.leads A A refl a_tiled)
    where
      ends : (G : List Tile) × IsFlipPath R A path G × IsTilingOf R end G → IsFlipPath R A path B
      ends (G, leads, (tiling, heights)) =
          subst (λ (C : List Tile). IsFlipPath R A path C) (same-heights R G B (height R end) (height R b) tiling b_tiled.0 heights.along b_tiled.1.along agree) leads

      go : (H : List Tile) × IsFlipPath R A half H × IsTilingOf R mid H → IsFlipPath R A path B
      go (H, leads, tiled) = ends (down.leads A H leads tiled)

  pub path-shortest : IsShortestBetween R a b path
  path-shortest A B a_tiled b_tiled = go (distance R B b two.accepted b_tiled.0 b_tiled.1 A a a_tiled.0 a_tiled.1)
    where
      same : (k : Kind) (g m n : ℕ) → g ≡ rise k * m → g ≡ rise k * n → m ≡ n
      same Square g m n e f = omega (arith, e, f)
      same Triangle g m n e f = omega (arith, e, f)

      go : (n : ℕ) × (height_gap a b ≡ rise R.kind * n) × IsFlipDistance R A B n → IsShortestFlipPath R A B path
      go (n, e, (other, shortest, long)) = record {
        leads = path-leads A B a_tiled b_tiled;
        least = λ third leads. subst (λ (m : ℕ). m ≤ length third) (long ∙ same R.kind (height_gap a b) n (length path) e whole-gap) (shortest.least third leads);
      }

  pub path-length : (n : ℕ) → IsDistanceBetween R a b n → length path ≡ n
  path-length n is = go (has-tiling R a two.accepted two.first) (has-tiling R b two.accepted two.second)
    where
      both : (A B : List Tile) → IsShortestFlipPath R A B path → IsFlipDistance R A B n → length path ≡ n
      both A B ours (other, theirs, long) = let l = ours.least other theirs.leads in let m = theirs.least path ours.leads in omega (arith, l, m, long)

      go : ((A : List Tile) × IsTrue (is_tiling R A) × AreHeights R A a × ((B : List Tile) → IsTrue (is_tiling R B) → AreHeights R B a → B ≡ A))
          → ((A : List Tile) × IsTrue (is_tiling R A) × AreHeights R A b × ((B : List Tile) → IsTrue (is_tiling R B) → AreHeights R B b → B ≡ A)) → length path ≡ n
      go (A, s, t, _) (B, u, v, _) = both A B (path-shortest A B (s, t) (u, v)) (is A B (s, t) (u, v))
