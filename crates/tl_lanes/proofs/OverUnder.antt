-- One more than the lesser of two vectors, and one less than the greater, lane by lane. The vectors hold the bits of the lanes.
use Rattle.std.proofs.Common.{◌≡◌, ℕ, zero, suc, ℤ, pos, ◌+ℤ◌, ◌-ℤ◌, List, [], ◌∷◌, All, cond, map, refl, sym, subst, ◌∙◌, w32, arith, length, get_or, ◌<◌, SFits, to_z, of_z}
use Rattle.std.proofs.lemmas.Int.{ints, to_z-of_z}
use Rattle.std.proofs.lemmas.List.Elements.{All-get_or}
use Rattle.std.specs.Prelude.{replicate}
use Rattle.std.specs.Simd.Lanes.{Each1, Each2, zip2, sel_l, top}
use borrow.Rule.Simd.Lanes.{Asks2, act2}
use borrow.Table.Row.{s_int}
use mir.Syntax.{add, sub, signed}
use Rattle.tl_lanes.specs.Lanes.{over, under}
use Rattle.tl_lanes.proofs.Lanes.{less}

abbrev more : ℕ → ℕ → ℕ
more = act2 (add signed) (s_int w32) (s_int w32) (s_int w32)

abbrev fewer : ℕ → ℕ → ℕ
fewer = act2 (sub signed) (s_int w32) (s_int w32) (s_int w32)

abbrev lesser_bits : ℤ → ℤ → ℕ
lesser_bits y z = cond (top 31 (less (of_z w32 y) (of_z w32 z))) (of_z w32 y) (of_z w32 z)

abbrev greater_bits : ℤ → ℤ → ℕ
greater_bits y z = cond (top 31 (less (of_z w32 y) (of_z w32 z))) (of_z w32 z) (of_z w32 y)

over-asked : (y z : ℤ) → SFits w32 y → SFits w32 z → SFits w32 (y +ℤ pos 1) → SFits w32 (z +ℤ pos 1) → Asks2 (add signed) (s_int w32) (s_int w32) (lesser_bits y z) 1
over-asked y z f g p q = grind (arith, ints, to_z-of_z)

over-is : (y z : ℤ) → SFits w32 y → SFits w32 z → SFits w32 (y +ℤ pos 1) → SFits w32 (z +ℤ pos 1) → to_z w32 (more (lesser_bits y z) 1) ≡ over y z
over-is y z f g p q = grind (arith, ints, to_z-of_z)

under-asked : (y z : ℤ) → SFits w32 y → SFits w32 z → SFits w32 (y -ℤ pos 1) → SFits w32 (z -ℤ pos 1) → Asks2 (sub signed) (s_int w32) (s_int w32) (greater_bits y z) 1
under-asked y z f g p q = grind (arith, ints, to_z-of_z)

under-is : (y z : ℤ) → SFits w32 y → SFits w32 z → SFits w32 (y -ℤ pos 1) → SFits w32 (z -ℤ pos 1) → to_z w32 (fewer (greater_bits y z) 1) ≡ under y z
under-is y z f g p q = grind (arith, ints, to_z-of_z)

abbrev lesser_lanes : List ℤ → List ℤ → List ℕ
lesser_lanes ys zs = sel_l (map (top 31) (zip2 less (map (of_z w32) ys) (map (of_z w32) zs))) (map (of_z w32) ys) (map (of_z w32) zs)

abbrev greater_lanes : List ℤ → List ℤ → List ℕ
greater_lanes ys zs = sel_l (map (top 31) (zip2 less (map (of_z w32) ys) (map (of_z w32) zs))) (map (of_z w32) zs) (map (of_z w32) ys)

pub lanes-over-asked : (n : ℕ) (ys zs : List ℤ) → Each1 (SFits w32) ys → Each1 (SFits w32) zs → Each1 (λ z. SFits w32 (z +ℤ pos 1)) ys → Each1 (λ z. SFits w32 (z +ℤ pos 1)) zs
    → Each2 (Asks2 (add signed) (s_int w32) (s_int w32)) (lesser_lanes ys zs) (replicate n 1)
lanes-over-asked n [] zs f g p q = tt
lanes-over-asked n (y ∷ ys) [] f g p q = tt
lanes-over-asked zero (y ∷ ys) (z ∷ zs) f g p q = tt
lanes-over-asked (suc n) (y ∷ ys) (z ∷ zs) f g p q = (over-asked y z f.0 g.0 p.0 q.0, lanes-over-asked n ys zs f.1 g.1 p.1 q.1)

pub lanes-over : (n : ℕ) (ys zs : List ℤ) → length ys ≡ n → Each1 (SFits w32) ys → Each1 (SFits w32) zs → Each1 (λ z. SFits w32 (z +ℤ pos 1)) ys → Each1 (λ z. SFits w32 (z +ℤ pos 1)) zs
    → map (to_z w32) (zip2 more (lesser_lanes ys zs) (replicate n 1)) ≡ zip2 over ys zs
lanes-over n [] zs long f g p q = refl
lanes-over n (y ∷ ys) [] long f g p q = refl
lanes-over zero (y ∷ ys) (z ∷ zs) long f g p q = absurd (omega arith)
lanes-over (suc n) (y ∷ ys) (z ∷ zs) long f g p q = λ i. over-is y z f.0 g.0 p.0 q.0 i ∷ lanes-over n ys zs (omega arith) f.1 g.1 p.1 q.1 i

pub lanes-under-asked : (n : ℕ) (ys zs : List ℤ) → Each1 (SFits w32) ys → Each1 (SFits w32) zs → Each1 (λ z. SFits w32 (z -ℤ pos 1)) ys → Each1 (λ z. SFits w32 (z -ℤ pos 1)) zs
    → Each2 (Asks2 (sub signed) (s_int w32) (s_int w32)) (greater_lanes ys zs) (replicate n 1)
lanes-under-asked n [] zs f g p q = tt
lanes-under-asked n (y ∷ ys) [] f g p q = tt
lanes-under-asked zero (y ∷ ys) (z ∷ zs) f g p q = tt
lanes-under-asked (suc n) (y ∷ ys) (z ∷ zs) f g p q = (under-asked y z f.0 g.0 p.0 q.0, lanes-under-asked n ys zs f.1 g.1 p.1 q.1)

pub lanes-under : (n : ℕ) (ys zs : List ℤ) → length ys ≡ n → Each1 (SFits w32) ys → Each1 (SFits w32) zs → Each1 (λ z. SFits w32 (z -ℤ pos 1)) ys → Each1 (λ z. SFits w32 (z -ℤ pos 1)) zs
    → map (to_z w32) (zip2 fewer (greater_lanes ys zs) (replicate n 1)) ≡ zip2 under ys zs
lanes-under n [] zs long f g p q = refl
lanes-under n (y ∷ ys) [] long f g p q = refl
lanes-under zero (y ∷ ys) (z ∷ zs) long f g p q = absurd (omega arith)
lanes-under (suc n) (y ∷ ys) (z ∷ zs) long f g p q = λ i. under-is y z f.0 g.0 p.0 q.0 i ∷ lanes-under n ys zs (omega arith) f.1 g.1 p.1 q.1 i

-- a vector that is passed on
pub passed : (zs : List ℤ) → Each1 (SFits w32) zs → map (to_z w32) (map (of_z w32) zs) ≡ zs
passed [] f = refl
passed (z ∷ zs) f = λ i. to_z-of_z w32 z f.0 i ∷ passed zs f.1 i

-- each lane of a vector of these numbers
pub each-of_all : (P : ℤ → Type 0) (ys zs : List ℤ) → ys ≡ zs → All P zs → Each1 P ys
each-of_all P ys zs same all = subst (Each1 P) (sym same) (each zs (λ i small. All-get_or P zs i (pos 0) small all))
  where
    each : (xs : List ℤ) → ((i : ℕ) → i < length xs → P (get_or xs i (pos 0))) → Each1 P xs
    each [] at = tt
    each (x ∷ xs) at = (at 0 (omega arith), each xs (λ i small. at (suc i) (omega arith)))

pub each-over : (ys zs : List ℤ) → Each1 (λ z. SFits w32 (z +ℤ pos 1)) ys → Each1 (λ z. SFits w32 (z +ℤ pos 1)) zs → Each1 (SFits w32) (zip2 over ys zs)
each-over [] zs p q = tt
each-over (y ∷ ys) [] p q = tt
each-over (y ∷ ys) (z ∷ zs) p q = (over-fits y z p.0 q.0, each-over ys zs p.1 q.1)
  where
    over-fits : (y z : ℤ) → SFits w32 (y +ℤ pos 1) → SFits w32 (z +ℤ pos 1) → SFits w32 (over y z)
    over-fits y z p q = grind (arith, ints)

pub each-under : (ys zs : List ℤ) → Each1 (λ z. SFits w32 (z -ℤ pos 1)) ys → Each1 (λ z. SFits w32 (z -ℤ pos 1)) zs → Each1 (SFits w32) (zip2 under ys zs)
each-under [] zs p q = tt
each-under (y ∷ ys) [] p q = tt
each-under (y ∷ ys) (z ∷ zs) p q = (under-fits y z p.0 q.0, each-under ys zs p.1 q.1)
  where
    under-fits : (y z : ℤ) → SFits w32 (y -ℤ pos 1) → SFits w32 (z -ℤ pos 1) → SFits w32 (under y z)
    under-fits y z p q = grind (arith, ints)

pub passed-fits : (zs : List ℤ) → Each1 (SFits w32) zs → Each1 (SFits w32) (map (to_z w32) (map (of_z w32) zs))
passed-fits zs f = subst (Each1 (SFits w32)) (sym (passed zs f)) f

pub get_or-zip2 : (f : ℤ → ℤ → ℤ) (ys zs : List ℤ) (j : ℕ) → j < length ys → j < length zs → get_or (zip2 f ys zs) j (pos 0) ≡ f (get_or ys j (pos 0)) (get_or zs j (pos 0))
get_or-zip2 f [] zs j p q = absurd (omega arith)
get_or-zip2 f (y ∷ ys) [] j p q = absurd (omega arith)
get_or-zip2 f (y ∷ ys) (z ∷ zs) zero p q = refl
get_or-zip2 f (y ∷ ys) (z ∷ zs) (suc j) p q = get_or-zip2 f ys zs j (omega arith) (omega arith)
