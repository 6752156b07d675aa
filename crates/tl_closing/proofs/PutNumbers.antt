-- Where the height of a corner stands; and one number put there changes that height alone.
use Rattle.std.proofs.Common.{◌≡◌, ℕ, ◌+◌, ◌*◌, ◌<◌, true, List, [], ◌∷◌, length, sym, ◌∙◌, ap, subst, arith, ℤ, pos, ◌+ℤ◌}
use Rattle.std.proofs.Math.ListN.{set}
use Rattle.std.proofs.lemmas.Nat.{mul-add-lt}
use Rattle.std.proofs.lemmas.List.{length-set, get_or-set_same, get_or-set_other}
use Rattle.tl_definitions.specs.declared.Corner.{Corner}
use Rattle.tl_definitions.specs.Lattice.{corner_eq}
use Rattle.tl_definitions.specs.Region.{Region, is_corner_of}
use Rattle.tl_definitions.specs.Accepted.{IsPlaced}
use Rattle.tl_definitions.specs.Heights.{height, height_count, AreHeightsOf}
use Rattle.tl_lists.specs.Lists.{put_at}
use Rattle.tl_lists.proofs.Puts.{put_at-one}
use Rattle.tl_definitions.proofs.Corners.{same_place, corner_eq-refl}
use Rattle.tl_closing.specs.Changed.{IsChangedAt}
use Rattle.tl_closing.proofs.Numbers.{corner-within}

-- within the array
pub place-within : (R : Region) (numbers : List ℤ) (v : Corner) → IsPlaced R → AreHeightsOf R numbers → is_corner_of R v ≡ true
    → v.r * (R.columns + 2) + v.x < length numbers
place-within R numbers v placed h e =
    let within = corner-within R v placed e in
    let below : v.r * (R.columns + 2) + v.x < (R.columns + 2) * (R.rows + 1) = mul-add-lt v.r (R.columns + 2) v.x (R.rows + 1) within.0 within.1 in
    at (height_count R) h.count (grind (arith, below))
  where
    at : (n : ℕ) → length numbers ≡ n → v.r * (R.columns + 2) + v.x < n → v.r * (R.columns + 2) + v.x < length numbers
    at n e l = omega (arith, e, l)

module _ (R : Region) (numbers : List ℤ) (v : Corner) (more : ℤ) (placed : IsPlaced R) (heights : AreHeightsOf R numbers) (of_region : is_corner_of R v ≡ true) where
  other-place : (w : Corner) → w.x < R.columns + 2 → (w ≡ v → ⊥) → w.r * (R.columns + 2) + w.x ≡ v.r * (R.columns + 2) + v.x → ⊥
  other-place w column differ e = differ (same_place w v (R.columns + 2) column (corner-within R v placed of_region).1 e)

  set-changed : IsChangedAt R numbers (set numbers (v.r * (R.columns + 2) + v.x) (height R numbers v +ℤ more)) v more
  set-changed = record {
    heights = record {
      count = length-set numbers (v.r * (R.columns + 2) + v.x) (height R numbers v +ℤ more) ∙ heights.count;
      elsewhere = λ w column none.
          get_or-set_other numbers (v.r * (R.columns + 2) + v.x) (w.r * (R.columns + 2) + w.x) (height R numbers v +ℤ more) (pos 0)
          (other-place w column (λ same. cc (sym none, ap (is_corner_of R) same, of_region))) ∙ heights.elsewhere w column none;
    };
    here = get_or-set_same numbers (v.r * (R.columns + 2) + v.x) (height R numbers v +ℤ more) (pos 0) (place-within R numbers v placed heights of_region);
    elsewhere = λ w at differ.
        get_or-set_other numbers (v.r * (R.columns + 2) + v.x) (w.r * (R.columns + 2) + w.x) (height R numbers v +ℤ more) (pos 0)
        (other-place w (corner-within R w placed at).1 (λ same. cc (sym differ, ap (λ (u : Corner). corner_eq u v) same, corner_eq-refl v)));
  }

  pub put-changed : IsChangedAt R numbers (put_at (v.r * (R.columns + 2) + v.x) ((height R numbers v +ℤ more) ∷ []) numbers) v more
  put-changed =
      subst (λ (others : List ℤ). IsChangedAt R numbers others v more)
      (sym (put_at-one (v.r * (R.columns + 2) + v.x) (height R numbers v +ℤ more) numbers (place-within R numbers v placed heights of_region))) set-changed
