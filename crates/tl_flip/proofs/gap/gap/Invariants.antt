use Rattle.std.proofs.Common.{◌≡◌, ◌+◌, ◌*◌, ◌^◌, ◌≤◌, length}
use Rattle.std.specs.Iterator.Adapters.{zip_first, zip_second}
use Rattle.std.specs.Slice.Iter.{iter_rest}
use Rattle.tl_lawful.specs.HeightGap.{height_gap}
use Rattle.tl_flip.proofs.gap.gap.Given as goal

-- what is left makes up the rest of the sum
abbrev pub invariant-loop-x : goal.invariant-loop-x
invariant-loop-x l =
    let xs = iter_rest (zip_first l.x-iterator) in
    let ys = iter_rest (zip_second l.x-iterator) in
    record { sum : l.sum + height_gap xs ys ≡ height_gap l.a l.b; small : l.sum + 2 ^ 32 * length xs ≤ 2 ^ 32 * length l.a }
