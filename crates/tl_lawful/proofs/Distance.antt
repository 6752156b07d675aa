-- The length of a shortest flip path: each flip lessens the gap by no more than the rise of a flip, and some flip by
-- just as much.
use Rattle.std.proofs.Common.{◌≡◌, ℕ, zero, suc, ◌+◌, ◌*◌, ◌≤◌, List, [], ◌∷◌, length, refl, sym, ◌∙◌, ap, subst, arith, ℤ}
use Rattle.std.specs.Prelude.{IsTrue}
use Rattle.tl_definitions.specs.declared.Kind.{Kind}
use Rattle.tl_definitions.specs.declared.Kind.TheVariants.{Square, Triangle}
use Rattle.tl_definitions.specs.declared.Corner.{Corner}
use Rattle.tl_definitions.specs.declared.Tile.{Tile}
use Rattle.tl_definitions.specs.Lattice.{rise}
use Rattle.tl_definitions.specs.Region.{Region, is_corner_of}
use Rattle.tl_definitions.specs.Accepted.{Accepted}
use Rattle.tl_definitions.specs.Tiling.{is_tiling}
use Rattle.tl_definitions.specs.Heights.{height, AreHeights, AreLawful}
use Rattle.tl_definitions.specs.Flip.{can_flip, flip, IsFlipPath, IsFlipDistance}
use Rattle.tl_closing.proofs.Stated.{has-heights, heights-lawful, same-heights}
use Rattle.tl_lawful.specs.HeightGap.{height_gap}
use Rattle.tl_lawful.proofs.Gaps.{IsMultiple}
use Rattle.tl_lawful.proofs.Places.{agreeing-gap, gap-agreeing, lawful-multiple}
use Rattle.tl_lawful.proofs.OneFlip.{FlippedNear, FlippedNearer, flip-near, flip-nearer}

one_more : (k : Kind) (g g' n : ℕ) → g ≤ g' + rise k → g' ≤ rise k * n → g ≤ rise k * suc n
one_more Square g g' n l m = omega (arith, l, m)
one_more Triangle g g' n l m = omega (arith, l, m)

one_less : (k : Kind) (g g' n : ℕ) → g' + rise k ≡ g → g ≡ rise k * suc n → g' ≡ rise k * n
one_less Square g g' n d e = omega (arith, d, e)
one_less Triangle g g' n d e = omega (arith, d, e)

some_left : (k : Kind) (g n : ℕ) → g ≡ rise k * suc n → g ≡ 0 → ⊥
some_left Square g n e z = omega (arith, e, z)
some_left Triangle g n e z = omega (arith, e, z)

no_longer : (k : Kind) (g n m : ℕ) → g ≡ rise k * n → g ≤ rise k * m → n ≤ m
no_longer Square g n m e l = omega (arith, e, l)
no_longer Triangle g n m e l = omega (arith, e, l)

abbrev HasPath : Region → List Tile → List Tile → ℕ → Type 0
HasPath R A B n = (path : List Corner) × IsFlipPath R A path B × (length path ≡ n)

module _ (R : Region) (B : List Tile) (b : List ℤ) (accepted : Accepted R) (b_tiling : IsTrue (is_tiling R B)) (b_heights : AreHeights R B b) where
  b_lawful : AreLawful R b
  b_lawful = heights-lawful R B b accepted b_tiling b_heights

  same-gap : (A : List Tile) (a : List ℤ) → IsTrue (is_tiling R A) → AreHeights R A a → A ≡ B → height_gap a b ≡ 0
  same-gap A a tiling heights same = go (has-heights R B accepted b_tiling)
    where
      go : (numbers : List ℤ) × AreHeights R B numbers × ((others : List ℤ) → AreHeights R B others → others ≡ numbers) → height_gap a b ≡ 0
      go (numbers, h, only) =
          let equal : a ≡ b = only a (subst (λ (C : List Tile). AreHeights R C a) same heights) ∙ sym (only b b_heights) in
          agreeing-gap R a b accepted (heights-lawful R A a accepted tiling heights) b_lawful (λ v e. ap (λ (numbers : List ℤ). height R numbers v) equal)

  -- each flip of a path takes no more than the rise off the gap
  path-gap : (path : List Corner) (A : List Tile) (a : List ℤ) → IsTrue (is_tiling R A) → AreHeights R A a → IsFlipPath R A path B → height_gap a b ≤ rise R.kind * length path
  path-gap [] A a tiling heights same = let none = same-gap A a tiling heights same in omega (arith, none)
  path-gap (v ∷ vs) A a tiling heights (can, leads) =
      go (flip-near R A a b accepted tiling heights b_lawful v can) (λ others t h. path-gap vs (flip R A v) others t h leads)
    where
      go : FlippedNear R A v a b
          → ((others : List ℤ) → IsTrue (is_tiling R (flip R A v)) → AreHeights R (flip R A v) others → height_gap others b ≤ rise R.kind * length vs)
          → height_gap a b ≤ rise R.kind * suc (length vs)
      go (others, t, h, near) rest = one_more R.kind (height_gap a b) (height_gap others b) (length vs) near (rest others t h)

  -- and there is a path of which each flip takes just the rise off it
  path-of : (n : ℕ) (A : List Tile) (a : List ℤ) → IsTrue (is_tiling R A) → AreHeights R A a → height_gap a b ≡ rise R.kind * n → HasPath R A B n
  path-of zero A a tiling heights e = ([], same-heights R A B (height R a) (height R b) tiling b_tiling heights.along b_heights.along agree, refl)
    where
      agree : (v : Corner) → IsTrue (is_corner_of R v) → height R a v ≡ height R b v
      agree = gap-agreeing R a b accepted (heights-lawful R A a accepted tiling heights) b_lawful (omega (arith, e))
  path-of (suc n) A a tiling heights e =
      go (flip-nearer R A a b accepted tiling heights b_lawful (some_left R.kind (height_gap a b) n e))
      (λ v others t h f. path-of n (flip R A v) others t h f)
    where
      go : (v : Corner) × IsTrue (can_flip R A v) × FlippedNearer R A v a b
          → ((v : Corner) (others : List ℤ) → IsTrue (is_tiling R (flip R A v)) → AreHeights R (flip R A v) others → height_gap others b ≡ rise R.kind * n → HasPath R (flip R A v) B n)
          → HasPath R A B (suc n)
      go (v, can, (others, t, h, nearer)) rest =
          let (path, leads, long) = rest v others t h (one_less R.kind (height_gap a b) (height_gap others b) n nearer e) in
          (v ∷ path, (can, leads), ap (λ (m : ℕ). suc m) long)

  pub distance : (A : List Tile) (a : List ℤ) → IsTrue (is_tiling R A) → AreHeights R A a
      → (n : ℕ) × (height_gap a b ≡ rise R.kind * n) × IsFlipDistance R A B n
  distance A a tiling heights = go (lawful-multiple R a b accepted (heights-lawful R A a accepted tiling heights) b_lawful)
    where
      of_length : (n : ℕ) → height_gap a b ≡ rise R.kind * n → HasPath R A B n → IsFlipDistance R A B n
      of_length n e (path, leads, long) = (
        path,
        record {
          leads = leads;
          least = λ other others_lead.
              subst (λ (m : ℕ). m ≤ length other) (sym long)
              (no_longer R.kind (height_gap a b) n (length other) e (path-gap other A a tiling heights others_lead));
        },
        long,
      )

      go : IsMultiple (rise R.kind) (height_gap a b) → (n : ℕ) × (height_gap a b ≡ rise R.kind * n) × IsFlipDistance R A B n
      go (n, e) = (n, e, of_length n e (path-of n A a tiling heights e))
