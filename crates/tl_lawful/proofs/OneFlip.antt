-- One flip brings the heights of a tiling nearer to others by no more than the rise of a flip, and at some corner by
-- just as much.
use Rattle.std.proofs.Common.{◌≡◌, ℕ, ◌+◌, ◌-◌, ◌*◌, ◌≤◌, ◌⊎◌, inl, inr, true, List, [], ◌∷◌, sym, ◌∙◌, subst, arith, ℤ, pos, negsuc, ◌+ℤ◌, ◌-ℤ◌, ◌*ℤ◌, ◌<ℤ◌}
use Rattle.std.specs.Prelude.{unsigned_abs, IsTrue}
use Rattle.std.proofs.lemmas.Bool.{and_parts, or_cases, or_left, or_right}
use Rattle.tl_definitions.specs.declared.Corner.{Corner}
use Rattle.tl_definitions.specs.declared.Tile.{Tile}
use Rattle.tl_definitions.specs.Lattice.{rise}
use Rattle.tl_definitions.specs.Region.{Region, is_corner_of}
use Rattle.tl_definitions.specs.Accepted.{Accepted}
use Rattle.tl_definitions.specs.Tiling.{is_tiling}
use Rattle.tl_definitions.specs.Heights.{height, AreHeights, AreLawful}
use Rattle.tl_definitions.specs.Flip.{stands_high, stands_low, can_flip, flip}
use Rattle.tl_lists.specs.Lists.{put_at}
use Rattle.tl_lists.proofs.Puts.{put_at-one}
use Rattle.tl_closing.proofs.Stated.{heights-lawful, inner-of_region, lowered-flip, place-within, put-changed, raised-flip, same-residue, standing-heights}
use Rattle.tl_lawful.proofs.UnderTarget.{over-lowered, under-raised, ToLower, ToRaise}
use Rattle.tl_lawful.specs.HeightGap.{height_gap}
use Rattle.tl_lawful.proofs.Gaps.{gap-set}
use Rattle.tl_lawful.proofs.Numbers.{raised-near, lowered-near, raised-nearer, lowered-nearer}
use Rattle.tl_lawful.proofs.Places.{gap-differ}

-- heights with so much more at one corner
abbrev pub with_more : Region → List ℤ → Corner → ℤ → List ℤ
with_more R numbers v more = put_at (v.r * (R.columns + 2) + v.x) ((height R numbers v +ℤ more) ∷ []) numbers

-- the flipped tiling's heights, of which so much is known
abbrev Flipped : Region → List Tile → Corner → (List ℤ → Type 0) → Type 0
Flipped R A v P = (others : List ℤ) × IsTrue (is_tiling R (flip R A v)) × AreHeights R (flip R A v) others × P others

abbrev pub FlippedNear : Region → List Tile → Corner → List ℤ → List ℤ → Type 0
FlippedNear R A v a b = Flipped R A v (λ others. height_gap a b ≤ height_gap others b + rise R.kind)

abbrev pub FlippedNearer : Region → List Tile → Corner → List ℤ → List ℤ → Type 0
FlippedNearer R A v a b = Flipped R A v (λ others. height_gap others b + rise R.kind ≡ height_gap a b)

module _ (R : Region) (A : List Tile) (a b : List ℤ) (accepted : Accepted R) (tiling : IsTrue (is_tiling R A)) (heights : AreHeights R A a) (b_lawful : AreLawful R b) where
  a_lawful : AreLawful R a
  a_lawful = heights-lawful R A a accepted tiling heights

  gap-with_more : (v : Corner) (more : ℤ) → is_corner_of R v ≡ true
      → height_gap (with_more R a v more) b + unsigned_abs (height R a v -ℤ height R b v) ≡ height_gap a b + unsigned_abs ((height R a v +ℤ more) -ℤ height R b v)
  gap-with_more v more e =
      let within = place-within R a v accepted.placed a_lawful.heights e in
      subst (λ (others : List ℤ). height_gap others b + unsigned_abs (height R a v -ℤ height R b v) ≡ height_gap a b + unsigned_abs ((height R a v +ℤ more) -ℤ height R b v))
      (sym (put_at-one (v.r * (R.columns + 2) + v.x) (height R a v +ℤ more) a within))
      (gap-set a b (v.r * (R.columns + 2) + v.x) (height R a v +ℤ more) (a_lawful.heights.count ∙ sym b_lawful.heights.count) within)

  raised : (v : Corner) (P : List ℤ → Type 0) → IsTrue (stands_low R A v) → P (with_more R a v (pos (rise R.kind))) → Flipped R A v P
  raised v P low p =
      let of_region = inner-of_region R v (and_parts _ _ low).0 in
      let changed = put-changed R a v (pos (rise R.kind)) accepted.placed a_lawful.heights of_region in
      let flipped = raised-flip R A a (with_more R a v (pos (rise R.kind))) v accepted tiling heights low changed in
      (with_more R a v (pos (rise R.kind)), flipped.0, flipped.1, p)

  lowered : (v : Corner) (P : List ℤ → Type 0) → IsTrue (stands_high R A v) → P (with_more R a v (negsuc (rise R.kind - 1))) → Flipped R A v P
  lowered v P high p =
      let of_region = inner-of_region R v (and_parts _ _ high).0 in
      let changed = put-changed R a v (negsuc (rise R.kind - 1)) accepted.placed a_lawful.heights of_region in
      let flipped = lowered-flip R A a (with_more R a v (negsuc (rise R.kind - 1))) v accepted tiling heights high changed in
      (with_more R a v (negsuc (rise R.kind - 1)), flipped.0, flipped.1, p)

  pub flip-near : (v : Corner) → IsTrue (can_flip R A v) → FlippedNear R A v a b
  flip-near v can = go (or_cases (stands_high R A v) (stands_low R A v) can)
    where
      sums : (g g' d d' m : ℕ) → g' + d ≡ g + d' → d ≤ d' + m → g ≤ g' + m
      sums g g' d d' m e l = omega (arith, e, l)

      go : (stands_high R A v ≡ true) ⊎ (stands_low R A v ≡ true) → FlippedNear R A v a b
      go (inl high) =
          lowered v (λ others. height_gap a b ≤ height_gap others b + rise R.kind) high
          (sums (height_gap a b) (height_gap (with_more R a v (negsuc (rise R.kind - 1))) b) (unsigned_abs (height R a v -ℤ height R b v))
          (unsigned_abs ((height R a v +ℤ negsuc (rise R.kind - 1)) -ℤ height R b v)) (rise R.kind)
          (gap-with_more v (negsuc (rise R.kind - 1)) (inner-of_region R v (and_parts _ _ high).0))
          (lowered-near R.kind (height R a v) (height R b v)))
      go (inr low) =
          raised v (λ others. height_gap a b ≤ height_gap others b + rise R.kind) low
          (sums (height_gap a b) (height_gap (with_more R a v (pos (rise R.kind))) b) (unsigned_abs (height R a v -ℤ height R b v))
          (unsigned_abs ((height R a v +ℤ pos (rise R.kind)) -ℤ height R b v)) (rise R.kind)
          (gap-with_more v (pos (rise R.kind)) (inner-of_region R v (and_parts _ _ low).0))
          (raised-near (rise R.kind) (height R a v) (height R b v)))

  pub flip-nearer : (height_gap a b ≡ 0 → ⊥) → (v : Corner) × IsTrue (can_flip R A v) × FlippedNearer R A v a b
  flip-nearer some = start (gap-differ R a b accepted a_lawful b_lawful some)
    where
      sums : (g g' d d' m : ℕ) → g' + d ≡ g + d' → d' + m ≡ d → g' + m ≡ g
      sums g g' d d' m e l = omega (arith, e, l)

      raise : ToRaise R a b → (v : Corner) × IsTrue (can_flip R A v) × FlippedNearer R A v a b
      raise (v, inner, falls, under) = (v, or_right (stands_high R A v) (stands_low R A v) low, nearer (same-residue R a b accepted a_lawful b_lawful v of_region))
        where
          of_region : is_corner_of R v ≡ true
          of_region = inner-of_region R v inner

          low : stands_low R A v ≡ true
          low = (standing-heights R A (height R a) v tiling heights.along inner).1 ∙ falls

          nearer : (j : ℤ) × (height R b v ≡ height R a v +ℤ (pos (rise R.kind) *ℤ j)) → FlippedNearer R A v a b
          nearer (j, e) =
              raised v (λ others. height_gap others b + rise R.kind ≡ height_gap a b) low
              (sums (height_gap a b) (height_gap (with_more R a v (pos (rise R.kind))) b) (unsigned_abs (height R a v -ℤ height R b v))
              (unsigned_abs ((height R a v +ℤ pos (rise R.kind)) -ℤ height R b v)) (rise R.kind)
              (gap-with_more v (pos (rise R.kind)) of_region)
              (raised-nearer R.kind (height R a v) (height R b v) j e under))

      lower : ToLower R a b → (v : Corner) × IsTrue (can_flip R A v) × FlippedNearer R A v a b
      lower (v, inner, falls, over) = (v, or_left (stands_high R A v) (stands_low R A v) high, nearer (same-residue R a b accepted a_lawful b_lawful v of_region))
        where
          of_region : is_corner_of R v ≡ true
          of_region = inner-of_region R v inner

          high : stands_high R A v ≡ true
          high = (standing-heights R A (height R a) v tiling heights.along inner).0 ∙ falls

          nearer : (j : ℤ) × (height R b v ≡ height R a v +ℤ (pos (rise R.kind) *ℤ j)) → FlippedNearer R A v a b
          nearer (j, e) =
              lowered v (λ others. height_gap others b + rise R.kind ≡ height_gap a b) high
              (sums (height_gap a b) (height_gap (with_more R a v (negsuc (rise R.kind - 1))) b) (unsigned_abs (height R a v -ℤ height R b v))
              (unsigned_abs ((height R a v +ℤ negsuc (rise R.kind - 1)) -ℤ height R b v)) (rise R.kind)
              (gap-with_more v (negsuc (rise R.kind - 1)) of_region)
              (lowered-nearer R.kind (height R a v) (height R b v) j e over))

      start : (w : Corner) × (is_corner_of R w ≡ true) × ((height R a w <ℤ height R b w) ⊎ (height R b w <ℤ height R a w))
          → (v : Corner) × IsTrue (can_flip R A v) × FlippedNearer R A v a b
      start (w, e, inl under) = raise (under-raised R a b accepted a_lawful b_lawful w e under)
      start (w, e, inr over) = lower (over-lowered R a b accepted a_lawful b_lawful w e over)
