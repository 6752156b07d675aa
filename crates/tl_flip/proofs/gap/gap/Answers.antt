use Rattle.std.proofs.Common.{◌≡◌, ◌∷◌, inl, inr, ap, refl, arith, List, length, ℤ, []}
use Rattle.std.specs.Iterator.Adapters.{zip_first, zip_second}
use Rattle.std.specs.Slice.Iter.{iter_rest}
use Rattle.std.proofs.lemmas.Slice.Zip.{Zip-more, either_empty_from_Zip}
use Rattle.tl_lawful.specs.HeightGap.{height_gap}
use Rattle.tl_lawful.proofs.Stated.{gap-cons}
use Rattle.tl_flip.proofs.gap.gap.Goals as goal

none-left : (xs ys : List ℤ) → xs ≡ [] → height_gap xs ys ≡ 0
none-left xs ys e = ap (λ l. height_gap l ys) e

none-right : (xs ys : List ℤ) → ys ≡ [] → height_gap xs ys ≡ 0
none-right [] ys e = refl
none-right (x ∷ xs) ys e = ap (λ l. height_gap (x ∷ xs) l) e

pub loop-x-preserved : goal.loop-x-preserved
loop-x-preserved c =
    let more = Zip-more c.loop-x.x-iterator c.next.new.self c.next.result (c.in-Some.x, c.in-Some.y) c.in-Some.is c.next.ensures.steps in
    let xs = iter_rest (zip_first c.next.new.self) in
    let ys = iter_rest (zip_second c.next.new.self) in
    let cons = gap-cons c.in-Some.x.now c.in-Some.y.now xs ys in
    let before : height_gap (iter_rest (zip_first c.loop-x.x-iterator)) (iter_rest (zip_second c.loop-x.x-iterator)) ≡ height_gap (c.in-Some.x.now ∷ xs) (c.in-Some.y.now ∷ ys) =
    (λ i. height_gap (more.0 i) (more.1 i)) in
    record { sum = omega (arith, before, cons, c.apart-sum.ensures.apart, c.loop-x.invariant.sum); small = omega (arith, ap length more.0, c.apart-sum.ensures.small, c.loop-x.invariant.small) }

pub returns-clause-gap : goal.returns-clause-gap
returns-clause-gap c =
    elim (either_empty_from_Zip c.loop-x.x-iterator c.next.new.self c.next.result c.in-None.is c.next.ensures.steps) [
      | inl p ↦ omega (arith, none-left _ (iter_rest (zip_second c.loop-x.x-iterator)) p)
      | inr q ↦ omega (arith, none-right (iter_rest (zip_first c.loop-x.x-iterator)) _ q)
    ]
