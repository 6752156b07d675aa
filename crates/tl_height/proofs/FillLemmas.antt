-- The height of an inner corner, from that of its left neighbour.
use Rattle.std.proofs.Common.{w32, w64, ◌≡◌, ℕ, ◌+◌, ◌-◌, ◌%◌, ◌^◌, ◌≤◌, Bool, ◌&&◌, List, cond, Some, refl, sym, ◌∙◌, ap, arith, ℤ, pos, negsuc, ◌+ℤ◌, ◌-ℤ◌, neg_ℤ, ◌≤ℤ◌}
use mir.Val.{SFits, to_z, of_z}
use Rattle.std.specs.Prelude.{◌==◌, IsTrue}
use Rattle.std.proofs.lemmas.Int.{ints}
use Rattle.std.proofs.lemmas.Bool.{eqb-true, eq-eqb}
use Rattle.tl_definitions.specs.declared.Kind.{Kind}
use Rattle.tl_definitions.specs.declared.Kind.TheVariants.{Square, Triangle}
use Rattle.tl_definitions.specs.declared.Cell.{Cell}
use Rattle.tl_definitions.specs.declared.Corner.{Corner}
use Rattle.tl_definitions.specs.declared.Tile.{Tile}
use Rattle.tl_definitions.specs.Lattice.{cell, corner, is_cell, rise, cell_width}
use Rattle.tl_definitions.specs.Limits.{most_corners}
use Rattle.tl_definitions.specs.Region.{Region, is_inner}
use Rattle.tl_definitions.specs.Tiling.{is_tiling, partner}
use Rattle.tl_definitions.specs.Heights.{height, AreHeights}
use Rattle.tl_lists.proofs.Tests.{same_test}
use Rattle.tl_closing.proofs.Stated.{leads_right, upper_cell, lower_cell, left_corner, climb_between, rise_from_left, fill-inner}

eqb-turned : (a b : ℕ) → (a == b) ≡ (b == a)
eqb-turned a b = same_test (a == b) (b == a) (λ e. eq-eqb b a (sym (eqb-true a b e))) (λ e. eq-eqb a b (sym (eqb-true b a e)))

-- two numbers are both even or both odd where their sum is even
pub same_parity : (r x : ℕ) → (r % 2 == x % 2) ≡ ((r + x) % 2 == 0)
same_parity r x =
    same_test (r % 2 == x % 2) ((r + x) % 2 == 0)
    (λ e. let same : r % 2 ≡ x % 2 = eqb-true (r % 2) (x % 2) e in eq-eqb ((r + x) % 2) 0 (omega (arith, same)))
    (λ e. let even : (r + x) % 2 ≡ 0 = eqb-true ((r + x) % 2) 0 e in eq-eqb (r % 2) (x % 2) (omega (arith, even)))

fall-is : (k : Kind) → pos 1 -ℤ pos (rise k) ≡ negsuc (rise k - 2)
fall-is Square = refl
fall-is Triangle = refl

-- The height of an inner corner, as the partner of the cell between it and its left neighbour tells it.
pub rise-told : (R : Region) (A : List Tile) (numbers : List ℤ) → IsTrue (is_tiling R A) → AreHeights R A numbers → (v : Corner) → IsTrue (is_inner R v)
    → (width : ℕ) (right across : Bool) (p : Cell) (climb : ℤ) → width ≡ cell_width R.kind → right ≡ leads_right R.kind v
    → partner A (cell (v.r - 1) (v.x - width)) ≡ Some p → across ≡ (p.r == v.r && p.c == v.x - width) → climb ≡ cond across (pos 1 -ℤ pos (rise R.kind)) (pos 1)
    → height R numbers v ≡ height R numbers (corner v.r (v.x - cell_width R.kind)) +ℤ cond right climb (neg_ℤ climb)
rise-told R A numbers tiling h v inner width right across p climb wide leads found is_across is_climb =
    (fill-inner R A numbers tiling h v inner).value ∙ ap (λ (z : ℤ). height R numbers (left_corner R.kind v) +ℤ z) (sym told)
  where
    partner_is : partner A (upper_cell R.kind v) ≡ Some p
    partner_is = ap (λ (n : ℕ). partner A (cell (v.r - 1) (v.x - n))) (sym wide) ∙ found

    across_is : across ≡ is_cell (lower_cell R.kind v) (partner A (upper_cell R.kind v))
    across_is =
        is_across ∙ (ap (λ (n : ℕ). p.r == v.r && p.c == v.x - n) wide
        ∙ (ap (λ (b : Bool). b && p.c == v.x - cell_width R.kind) (eqb-turned p.r v.r)
        ∙ (ap (λ (b : Bool). v.r == p.r && b) (eqb-turned p.c (v.x - cell_width R.kind))
        ∙ sym (ap (is_cell (lower_cell R.kind v)) partner_is))))

    climb_is : climb ≡ climb_between R A v
    climb_is =
        is_climb ∙ (ap (λ (z : ℤ). cond across z (pos 1)) (fall-is R.kind) ∙ ap (λ (b : Bool). cond b (negsuc (rise R.kind - 2)) (pos 1)) across_is)

    told : cond right climb (neg_ℤ climb) ≡ rise_from_left R A v
    told = ap (λ (t : Bool). cond t climb (neg_ℤ climb)) leads ∙ ap (λ (z : ℤ). cond (leads_right R.kind v) z (neg_ℤ z)) climb_is

-- ---- numbers in 32 bits

abbrev pub InRange : ℤ → Type 0
InRange z = (negsuc (2 ^ 31 - 1) ≤ℤ z) × (z ≤ℤ pos (2 ^ 31 - 1))

pub sum-fits : (a b z : ℤ) → InRange a → negsuc 3 ≤ℤ b → b ≤ℤ pos 3 → InRange z → z ≡ a +ℤ b → SFits w32 (to_z w32 (of_z w32 a) +ℤ to_z w32 (of_z w32 b))
sum-fits a b z f low high g e = omega (arith, ints, f.0, f.1, low, high, g.0, g.1, e)

pub sum-is : (a b z : ℤ) → InRange a → negsuc 3 ≤ℤ b → b ≤ℤ pos 3 → InRange z → z ≡ a +ℤ b → to_z w32 (of_z w32 (to_z w32 (of_z w32 a) +ℤ to_z w32 (of_z w32 b))) ≡ z
sum-is a b z f low high g e = omega (arith, ints, f.0, f.1, low, high, g.0, g.1, e)

-- the prefix of a corner of the circuit
pub prefix-fits : (p : ℤ) (k : ℕ) → neg_ℤ (pos k) ≤ℤ p → p ≤ℤ pos k → k ≤ most_corners → SFits w32 (to_z w64 (of_z w64 p))
prefix-fits p k low high few = omega (arith, ints, low, high, few)

pub prefix-is : (p : ℤ) (k : ℕ) → neg_ℤ (pos k) ≤ℤ p → p ≤ℤ pos k → k ≤ most_corners → to_z w32 (of_z w32 (to_z w64 (of_z w64 p))) ≡ p
prefix-is p k low high few = omega (arith, ints, low, high, few)
