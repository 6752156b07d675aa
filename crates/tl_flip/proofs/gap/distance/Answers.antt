use Rattle.std.proofs.Common.{◌≡◌, ℕ, ◌*◌, ◌/◌, List, ◌∙◌, ap, subst, arith, ℤ, pos, w32, to_z, of_z}
use Rattle.std.specs.Prelude.{unsigned_abs}
use Rattle.tl_definitions.specs.declared.Kind.{Kind}
use Rattle.tl_definitions.specs.declared.Kind.TheVariants.{Square, Triangle}
use Rattle.tl_definitions.specs.Accepted.{Accepted}
use Rattle.tl_definitions.specs.Flip.{IsFlipDistance}
use Rattle.tl_definitions.specs.Lattice.{rise}
use Rattle.tl_definitions.specs.Region.{Region}
use Rattle.tl_lawful.specs.HeightGap.{height_gap}
use Rattle.tl_lawful.proofs.Stated.{distance}
use Rattle.tl_flip.specs.Flips.{IsDistanceBetween}
use Rattle.tl_flip.proofs.gap.distance.Goals as goal

over_rise : (k : Kind) (gap n : ℕ) (r : ℤ) → gap ≡ rise k * n → r ≡ pos (rise k) → n ≡ gap / unsigned_abs (to_z w32 (of_z w32 r))
over_rise Square gap n r e f =
    let four : gap / unsigned_abs (to_z w32 (of_z w32 r)) ≡ gap / 4 = ap (λ (z : ℤ). gap / unsigned_abs (to_z w32 (of_z w32 z))) f in
    omega (arith, e, four)
over_rise Triangle gap n r e f =
    let three : gap / unsigned_abs (to_z w32 (of_z w32 r)) ≡ gap / 3 = ap (λ (z : ℤ). gap / unsigned_abs (to_z w32 (of_z w32 z))) f in
    omega (arith, e, three)

gap-distance : (R : Region) (a b : List ℤ) (gap : ℕ) (r : ℤ) → Accepted R → gap ≡ height_gap a b → r ≡ pos (rise R.kind)
    → IsDistanceBetween R a b (gap / unsigned_abs (to_z w32 (of_z w32 r)))
gap-distance R a b gap r accepted is rises A B a_tiling b_tiling = go (distance R B b accepted b_tiling.0 b_tiling.1 A a a_tiling.0 a_tiling.1)
  where
    go : (n : ℕ) × (height_gap a b ≡ rise R.kind * n) × IsFlipDistance R A B n → IsFlipDistance R A B (gap / unsigned_abs (to_z w32 (of_z w32 r)))
    go (n, e, (path, shortest, long)) = (path, shortest, long ∙ over_rise R.kind gap n r (is ∙ e) rises)

pub returns-clause-distance : goal.returns-clause-distance
returns-clause-distance c =
    let R = c.args.a.now.region in
    let same = c.region-region.ensures.region in
    let accepted : Accepted R = subst Accepted same c.rows.ensures.accepted in
    let is : c.gap.result ≡ height_gap c.args.a.now.numbers c.args.b.now.numbers =
    c.gap.ensures.gap ∙ (λ i. height_gap (c.numbers-numbers.ensures.numbers i) (c.numbers.ensures.numbers i)) in
    gap-distance R c.args.a.now.numbers c.args.b.now.numbers c.gap.result c.rise.result accepted is
    (c.rise.ensures ∙ (λ i. pos (rise (c.kind.ensures i))) ∙ (λ i. pos (rise (same i).kind)))
