-- Steps at the places of a row, by the windows beside it.
use Rattle.std.proofs.Common.{◌≡◌, ℕ, ◌+◌, ◌-◌, ◌<◌, ◌≤◌, Bool, true, false, List, cond, length, get_or, drop, rules, refl, sym, ◌∙◌, ap, subst, arith, ℤ, pos, ◌+ℤ◌, ◌-ℤ◌, w32}
use Rattle.std.specs.Prelude.{◌==◌, if◌then◌else◌, slice_range, FitsSigned, int_le}
use mir.Val.{to_z, of_z}
use Rattle.std.specs.Int.{bit_at}
use Rattle.std.proofs.lemmas.Int.{ints, to_z-of_z}
use Rattle.std.proofs.lemmas.List.{get_or_default, length-take}
use Rattle.std.proofs.lemmas.Simd.{get_or-chunk}
use Rattle.tl_lanes.specs.Lanes.{greater, lesser, step_or_old, stepped}
use Rattle.tl_sweep.specs.Places.{AreSmall, IsSmall, at, by_class, is_bit, square_stepped, window}

-- ---- a window

at-window : (numbers : List ℤ) (start count j : ℕ) → j < count → at (window numbers start count) j ≡ at numbers (start + j)
at-window numbers start count j h = get_or-chunk start (start + count - start) numbers j (pos 0) (omega (arith, h))

at-part : (numbers part : List ℤ) (start count j p : ℕ) → j < count → part ≡ window numbers start count → start + j ≡ p → at part j ≡ at numbers p
at-part numbers part start count j p h e sum = ap (λ (l : List ℤ). at l j) e ∙ at-window numbers start count j h ∙ ap (at numbers) sum

small-window : (numbers : List ℤ) (start count : ℕ) (part : List ℤ) → AreSmall numbers → part ≡ window numbers start count → (j : ℕ) → j < length part → IsSmall (at part j)
small-window numbers start count part small e j h =
    subst (λ (z : ℤ). IsSmall z) (sym (at-part numbers part start count j (start + j) (omega (arith, h, ap length e, length-take (start + count - start) (drop start numbers))) e refl)) (small (start + j))

raised-fits : (z : ℤ) → IsSmall z → FitsSigned w32 (z +ℤ pos 1)
raised-fits z s = search (rules, ints)

lowered-fits : (z : ℤ) → IsSmall z → FitsSigned w32 (z -ℤ pos 1)
lowered-fits z s = search (rules, ints)

pub fits-raised : (numbers : List ℤ) (start count : ℕ) (part : List ℤ) → AreSmall numbers → part ≡ window numbers start count
    → (j : ℕ) (d : ℤ) → j < length part → FitsSigned w32 (get_or part j d +ℤ pos 1)
fits-raised numbers start count part small e j d h =
    subst (λ (z : ℤ). FitsSigned w32 (z +ℤ pos 1)) (get_or_default part j (pos 0) d h) (raised-fits (at part j) (small-window numbers start count part small e j h))

pub fits-lowered : (numbers : List ℤ) (start count : ℕ) (part : List ℤ) → AreSmall numbers → part ≡ window numbers start count
    → (j : ℕ) (d : ℤ) → j < length part → FitsSigned w32 (get_or part j d -ℤ pos 1)
fits-lowered numbers start count part small e j d h =
    subst (λ (z : ℤ). FitsSigned w32 (z -ℤ pos 1)) (get_or_default part j (pos 0) d h) (lowered-fits (at part j) (small-window numbers start count part small e j h))

-- ---- the steps

pub row-stepped : (numbers : List ℤ) (width start : ℕ) (is_even : Bool) (bits class j count : ℕ) → j < count
    → (from from_other to to_other : List ℤ)
    → from ≡ window numbers (if is_even then start + 1 else start - width) count
    → from_other ≡ window numbers (if is_even then start - 1 else start + width) count
    → to ≡ window numbers (if is_even then start - width else start - 1) count
    → to_other ≡ window numbers (if is_even then start + width else start + 1) count
    → width < start
    → step_or_old (window numbers start count) from from_other to to_other bits class j ≡ by_class numbers width start is_even bits class j
row-stepped numbers width start is_even bits class j count h from from_other to to_other e f g k above =
    λ i. cond (bit_at class j == 1) (step is_even e f g k i) (at-window numbers start count j h i)
  where
    step : (t : Bool)
        → from ≡ window numbers (if t then start + 1 else start - width) count
        → from_other ≡ window numbers (if t then start - 1 else start + width) count
        → to ≡ window numbers (if t then start - width else start - 1) count
        → to_other ≡ window numbers (if t then start + width else start + 1) count
        → stepped from from_other to to_other bits j ≡ square_stepped numbers width (start + j) t (is_bit bits j)
    step true e f g k =
        let right = at-part numbers from (start + 1) count j (start + j + 1) h e (omega arith) in
        let left = at-part numbers from_other (start - 1) count j (start + j - 1) h f (omega (arith, above)) in
        let over = at-part numbers to (start - width) count j (start + j - width) h g (omega (arith, above)) in
        let under = at-part numbers to_other (start + width) count j (start + j + width) h k (omega arith) in
        λ i. cond (bit_at bits j == 1) (lesser (right i) (left i) +ℤ pos 1) (greater (over i) (under i) -ℤ pos 1)
    step false e f g k =
        let over = at-part numbers from (start - width) count j (start + j - width) h e (omega (arith, above)) in
        let under = at-part numbers from_other (start + width) count j (start + j + width) h f (omega arith) in
        let left = at-part numbers to (start - 1) count j (start + j - 1) h g (omega (arith, above)) in
        let right = at-part numbers to_other (start + 1) count j (start + j + 1) h k (omega arith) in
        λ i. cond (bit_at bits j == 1) (lesser (over i) (under i) +ℤ pos 1) (greater (left i) (right i) -ℤ pos 1)

-- ---- the lesser and the greater of three numbers that were read

exact : (z : ℤ) → IsSmall z → to_z w32 (of_z w32 z) ≡ z
exact z s = let fits : FitsSigned w32 z = search (rules, ints) in to_z-of_z w32 z fits

one-small : (t : Bool) (y z : ℤ) → IsSmall y → IsSmall z → IsSmall (cond t y z)
one-small true y z s u = s
one-small false y z s u = u

raised-three-is : (x y z least : ℤ) → IsSmall x → IsSmall y → IsSmall z
    → least ≡ lesser (lesser (to_z w32 (of_z w32 x)) (to_z w32 (of_z w32 y))) (to_z w32 (of_z w32 z)) → least ≡ lesser (lesser x y) z
raised-three-is x y z least s u v e = e ∙ (λ i. lesser (lesser (exact x s i) (exact y u i)) (exact z v i))

raised-three-small : (x y z least : ℤ) → IsSmall x → IsSmall y → IsSmall z → least ≡ lesser (lesser x y) z → IsSmall least
raised-three-small x y z least s u v is =
    subst (λ (m : ℤ). IsSmall m) (sym is) (one-small (int_le (lesser x y) z) (lesser x y) z (one-small (int_le x y) x y s u) v)

-- one more than the least of three, and that it fits
pub raised-three-fits : (x y z least : ℤ) → IsSmall x → IsSmall y → IsSmall z
    → least ≡ lesser (lesser (to_z w32 (of_z w32 x)) (to_z w32 (of_z w32 y))) (to_z w32 (of_z w32 z))
    → FitsSigned w32 (to_z w32 (of_z w32 least) +ℤ pos 1)
raised-three-fits x y z least s u v e =
    let small : IsSmall least = raised-three-small x y z least s u v (raised-three-is x y z least s u v e) in
    subst (λ (m : ℤ). FitsSigned w32 (m +ℤ pos 1)) (sym (exact least small)) (raised-fits least small)

pub raised-three : (x y z least : ℤ) → IsSmall x → IsSmall y → IsSmall z
    → least ≡ lesser (lesser (to_z w32 (of_z w32 x)) (to_z w32 (of_z w32 y))) (to_z w32 (of_z w32 z))
    → to_z w32 (of_z w32 (to_z w32 (of_z w32 least) +ℤ pos 1)) ≡ lesser (lesser x y) z +ℤ pos 1
raised-three x y z least s u v e =
    let is : least ≡ lesser (lesser x y) z = raised-three-is x y z least s u v e in
    let small : IsSmall least = raised-three-small x y z least s u v is in
    ap (λ (m : ℤ). to_z w32 (of_z w32 (m +ℤ pos 1))) (exact least small) ∙ to_z-of_z w32 (least +ℤ pos 1) (raised-fits least small) ∙ ap (λ (m : ℤ). m +ℤ pos 1) is

lowered-three-is : (x y z greatest : ℤ) → IsSmall x → IsSmall y → IsSmall z
    → greatest ≡ greater (greater (to_z w32 (of_z w32 x)) (to_z w32 (of_z w32 y))) (to_z w32 (of_z w32 z)) → greatest ≡ greater (greater x y) z
lowered-three-is x y z greatest s u v e = e ∙ (λ i. greater (greater (exact x s i) (exact y u i)) (exact z v i))

lowered-three-small : (x y z greatest : ℤ) → IsSmall x → IsSmall y → IsSmall z → greatest ≡ greater (greater x y) z → IsSmall greatest
lowered-three-small x y z greatest s u v is =
    subst (λ (m : ℤ). IsSmall m) (sym is) (one-small (int_le (greater x y) z) z (greater x y) v (one-small (int_le x y) y x u s))

-- one less than the greatest of three, and that it fits
pub lowered-three-fits : (x y z greatest : ℤ) → IsSmall x → IsSmall y → IsSmall z
    → greatest ≡ greater (greater (to_z w32 (of_z w32 x)) (to_z w32 (of_z w32 y))) (to_z w32 (of_z w32 z))
    → FitsSigned w32 (to_z w32 (of_z w32 greatest) -ℤ pos 1)
lowered-three-fits x y z greatest s u v e =
    let small : IsSmall greatest = lowered-three-small x y z greatest s u v (lowered-three-is x y z greatest s u v e) in
    subst (λ (m : ℤ). FitsSigned w32 (m -ℤ pos 1)) (sym (exact greatest small)) (lowered-fits greatest small)

pub lowered-three : (x y z greatest : ℤ) → IsSmall x → IsSmall y → IsSmall z
    → greatest ≡ greater (greater (to_z w32 (of_z w32 x)) (to_z w32 (of_z w32 y))) (to_z w32 (of_z w32 z))
    → to_z w32 (of_z w32 (to_z w32 (of_z w32 greatest) -ℤ pos 1)) ≡ greater (greater x y) z -ℤ pos 1
lowered-three x y z greatest s u v e =
    let is : greatest ≡ greater (greater x y) z = lowered-three-is x y z greatest s u v e in
    let small : IsSmall greatest = lowered-three-small x y z greatest s u v is in
    ap (λ (m : ℤ). to_z w32 (of_z w32 (m -ℤ pos 1))) (exact greatest small) ∙ to_z-of_z w32 (greatest -ℤ pos 1) (lowered-fits greatest small) ∙ ap (λ (m : ℤ). m -ℤ pos 1) is
