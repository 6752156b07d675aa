-- The top tiling has the greatest lawful heights, and the bottom tiling the least.
use Rattle.std.proofs.Common.{◌≡◌, ◌+◌, ◌-◌, ◌*◌, ◌↔◌, Bool, true, false, List, [], ◌∷◌, refl, sym, ◌∙◌, arith, ℤ, pos, negsuc, ◌+ℤ◌, ◌≤ℤ◌, int_lt}
use Rattle.std.specs.Prelude.{IsTrue, IsFalse}
use Rattle.std.specs.List.{list_any}
use Rattle.std.proofs.lemmas.Bool.{false_from_ne_true}
use Rattle.std.proofs.lemmas.Int.{ints}
use Rattle.tl_definitions.specs.declared.Kind.{Kind}
use Rattle.tl_definitions.specs.declared.Kind.TheVariants.{Square, Triangle}
use Rattle.tl_definitions.specs.declared.Corner.{Corner}
use Rattle.tl_definitions.specs.declared.Tile.{Tile}
use Rattle.tl_definitions.specs.Lattice.{rise}
use Rattle.tl_definitions.specs.Region.{Region, corner_places, is_corner_of, is_inner, inner_corners}
use Rattle.tl_definitions.specs.Accepted.{Accepted}
use Rattle.tl_definitions.specs.Tiling.{is_tiling}
use Rattle.tl_definitions.specs.Heights.{height, AreHeights, AreLawful}
use Rattle.tl_definitions.specs.Flip.{stands_high, stands_low, IsTop, IsBottom}
use Rattle.tl_definitions.proofs.Walks.{corner-In}
use Rattle.tl_definitions.proofs.InnerNumbers.{any-inner_corners}
use Rattle.tl_lists.specs.Lists.{put_at}
use Rattle.tl_lists.proofs.Members.{In, In-any_of, In-filter_parts, any-In}
use Rattle.tl_closing.specs.Standing.{falls_from, falls_to}
use Rattle.tl_closing.specs.Changed.{IsChangedAt}
use Rattle.tl_closing.proofs.Stated.{has-heights, heights-lawful, inner-of_region, lowered-lawful, lt-false, lt-true, put-changed, raised-lawful, same-heights, standing-heights}
use Rattle.tl_lawful.specs.Order.{AreGreatest, AreLeast, LieBelow}
use Rattle.tl_lawful.proofs.UnderTarget.{over-lowered, under-raised}

abbrev AtNoInner : Region → (Corner → Bool) → Type 0
AtNoInner R test = (v : Corner) → is_inner R v ≡ true → test v ≡ true → ⊥

-- heights with so much more at one corner
abbrev with_more : Region → List ℤ → Corner → ℤ → List ℤ
with_more R numbers v more = put_at (v.r * (R.columns + 2) + v.x) ((height R numbers v +ℤ more) ∷ []) numbers

abbrev HeightsOf : Region → List Tile → Type 0
HeightsOf R A = (numbers : List ℤ) × AreHeights R A numbers × ((others : List ℤ) → AreHeights R A others → others ≡ numbers)

module _ (R : Region) (accepted : Accepted R) where
  -- a test of the listed inner corners is one of all inner corners
  listed-none : (test : Corner → Bool) → IsFalse (list_any test (inner_corners R)) → AtNoInner R test
  listed-none test none v inner e =
      cc (sym none, In-any_of test v (inner_corners R) (corner-In v (inner_corners R) (any-inner_corners R v accepted.placed ∙ inner)) e)

  none-listed : (test : Corner → Bool) → AtNoInner R test → IsFalse (list_any test (inner_corners R))
  none-listed test none = false_from_ne_true (list_any test (inner_corners R)) (λ e. go (any-In test (inner_corners R) e))
    where
      go : (v : Corner) × In v (inner_corners R) × (test v ≡ true) → ⊥
      go (v, i, e) = none v (In-filter_parts (is_inner R) v (corner_places R) i).1 e

  with_more-changed : (numbers : List ℤ) (v : Corner) (more : ℤ) → AreLawful R numbers → is_inner R v ≡ true → IsChangedAt R numbers (with_more R numbers v more) v more
  with_more-changed numbers v more lawful inner = put-changed R numbers v more accepted.placed lawful.heights (inner-of_region R v inner)

  -- ---- the greatest

  greatest-unraised : (numbers : List ℤ) → AreGreatest R numbers → AtNoInner R (falls_to R numbers)
  greatest-unraised numbers (lawful, greatest) v inner falls =
      higher R.kind (height R numbers v) (height R (with_more R numbers v (pos (rise R.kind))) v) changed.here
      (greatest (with_more R numbers v (pos (rise R.kind))) (raised-lawful R numbers (with_more R numbers v (pos (rise R.kind))) v accepted lawful inner falls changed) v (inner-of_region R v inner))
    where
      changed : IsChangedAt R numbers (with_more R numbers v (pos (rise R.kind))) v (pos (rise R.kind))
      changed = with_more-changed numbers v (pos (rise R.kind)) lawful inner

      higher : (k : Kind) (y z : ℤ) → z ≡ y +ℤ pos (rise k) → z ≤ℤ y → ⊥
      higher Square y z e l = omega (arith, ints, e, l)
      higher Triangle y z e l = omega (arith, ints, e, l)

  unraised-greatest : (numbers : List ℤ) → AreLawful R numbers → AtNoInner R (falls_to R numbers) → AreGreatest R numbers
  unraised-greatest numbers lawful none = (lawful, λ others other_lawful v e. go others other_lawful v e (int_lt (height R numbers v) (height R others v)) refl)
    where
      go : (others : List ℤ) → AreLawful R others → (v : Corner) → is_corner_of R v ≡ true → (t : Bool) → int_lt (height R numbers v) (height R others v) ≡ t
          → height R others v ≤ℤ height R numbers v
      go others other_lawful v e true l =
          let (u, inner, falls, apart) = under-raised R numbers others accepted lawful other_lawful v e (lt-true (height R numbers v) (height R others v) l) in
          absurd (none u inner falls)
      go others other_lawful v e false l = lt-false (height R numbers v) (height R others v) l

  pub top-greatest : (A : List Tile) (numbers : List ℤ) → IsTrue (is_tiling R A) → AreHeights R A numbers → IsTop R A ↔ AreGreatest R numbers
  top-greatest A numbers tiling h = (
    λ top. unraised-greatest numbers (heights-lawful R A numbers accepted tiling h)
        (λ v inner falls. listed-none (stands_low R A) top.none_low v inner (low v inner ∙ falls)),
    λ greatest. record {
      tiling = tiling;
      none_low = none-listed (stands_low R A) (λ v inner stands. greatest-unraised numbers greatest v inner (sym (low v inner) ∙ stands));
    },
  )
    where
      low : (v : Corner) → is_inner R v ≡ true → stands_low R A v ≡ falls_to R numbers v
      low v inner = (standing-heights R A (height R numbers) v tiling h.along inner).1

  -- ---- the least

  least-unlowered : (numbers : List ℤ) → AreLeast R numbers → AtNoInner R (falls_from R numbers)
  least-unlowered numbers (lawful, least) v inner falls =
      let below = least (with_more R numbers v (negsuc (rise R.kind - 1))) (lowered-lawful R numbers (with_more R numbers v (negsuc (rise R.kind - 1))) v accepted lawful inner falls changed) v (inner-of_region R v inner) in
      lower R.kind (height R numbers v) (height R (with_more R numbers v (negsuc (rise R.kind - 1))) v) changed.here below
    where
      changed : IsChangedAt R numbers (with_more R numbers v (negsuc (rise R.kind - 1))) v (negsuc (rise R.kind - 1))
      changed = with_more-changed numbers v (negsuc (rise R.kind - 1)) lawful inner

      lower : (k : Kind) (y z : ℤ) → z ≡ y +ℤ negsuc (rise k - 1) → y ≤ℤ z → ⊥
      lower k y z e l = omega (arith, ints, e, l)

  unlowered-least : (numbers : List ℤ) → AreLawful R numbers → AtNoInner R (falls_from R numbers) → AreLeast R numbers
  unlowered-least numbers lawful none = (lawful, λ others other_lawful v e. go others other_lawful v e (int_lt (height R others v) (height R numbers v)) refl)
    where
      go : (others : List ℤ) → AreLawful R others → (v : Corner) → is_corner_of R v ≡ true → (t : Bool) → int_lt (height R others v) (height R numbers v) ≡ t
          → height R numbers v ≤ℤ height R others v
      go others other_lawful v e true l =
          let (u, inner, falls, apart) = over-lowered R numbers others accepted lawful other_lawful v e (lt-true (height R others v) (height R numbers v) l) in
          absurd (none u inner falls)
      go others other_lawful v e false l = lt-false (height R others v) (height R numbers v) l

  pub bottom-least : (A : List Tile) (numbers : List ℤ) → IsTrue (is_tiling R A) → AreHeights R A numbers → IsBottom R A ↔ AreLeast R numbers
  bottom-least A numbers tiling h = (
    λ bottom. unlowered-least numbers (heights-lawful R A numbers accepted tiling h)
        (λ v inner falls. listed-none (stands_high R A) bottom.none_high v inner (high v inner ∙ falls)),
    λ least. record {
      tiling = tiling;
      none_high = none-listed (stands_high R A) (λ v inner stands. least-unlowered numbers least v inner (sym (high v inner) ∙ stands));
    },
  )
    where
      high : (v : Corner) → is_inner R v ≡ true → stands_high R A v ≡ falls_from R numbers v
      high v inner = (standing-heights R A (height R numbers) v tiling h.along inner).0

  -- ---- there is one of each

  -- tilings whose heights lie below each other are the same
  both-below : (A B : List Tile) (ms ns : List ℤ) → IsTrue (is_tiling R A) → IsTrue (is_tiling R B) → AreHeights R A ms → AreHeights R B ns
      → LieBelow R ms ns → LieBelow R ns ms → A ≡ B
  both-below A B ms ns a b g h p q = same-heights R A B (height R ms) (height R ns) a b g.along h.along (λ v e. equal (height R ms v) (height R ns v) (p v e) (q v e))
    where
      equal : (y z : ℤ) → y ≤ℤ z → z ≤ℤ y → y ≡ z
      equal y z l m = omega (arith, ints, l, m)

  pub one-top : (A B : List Tile) → IsTop R A → IsTop R B → A ≡ B
  one-top A B a b = go (has-heights R A accepted a.tiling) (has-heights R B accepted b.tiling)
    where
      go : HeightsOf R A → HeightsOf R B → A ≡ B
      go (ms, g, _) (ns, h, _) =
          let p : AreGreatest R ms = (top-greatest A ms a.tiling g).0 a in
          let q : AreGreatest R ns = (top-greatest B ns b.tiling h).0 b in
          both-below A B ms ns a.tiling b.tiling g h (q.1 ms p.0) (p.1 ns q.0)

  pub one-bottom : (A B : List Tile) → IsBottom R A → IsBottom R B → A ≡ B
  one-bottom A B a b = go (has-heights R A accepted a.tiling) (has-heights R B accepted b.tiling)
    where
      go : HeightsOf R A → HeightsOf R B → A ≡ B
      go (ms, g, _) (ns, h, _) =
          let p : AreLeast R ms = (bottom-least A ms a.tiling g).0 a in
          let q : AreLeast R ns = (bottom-least B ns b.tiling h).0 b in
          both-below A B ms ns a.tiling b.tiling g h (p.1 ns q.0) (q.1 ms p.0)
