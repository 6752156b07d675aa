-- The numbers of heights after the first classes of a stretch, and that those after all classes are carried.
use Rattle.std.proofs.Common.{◌≡◌, ℕ, zero, suc, ◌+◌, ◌-◌, ◌*◌, Bool, List, refl, sym, ◌∙◌, ap, arith, ℤ}
use Rattle.tl_definitions.specs.declared.Kind.{Kind}
use Rattle.tl_definitions.specs.declared.Kind.TheVariants.{Square, Triangle}
use Rattle.tl_definitions.specs.Lattice.{classes}
use Rattle.tl_definitions.specs.Region.{Region}
use Rattle.tl_coupling.specs.Carried.{carried_numbers, class_swept, swept}
use Rattle.tl_string_sweep.proofs.AllClasses.{swept-squares, swept-triangles}
use Rattle.tl_courses.specs.Courses.{class_at, time_at}

-- a class and a time behind one sweep are those of the later start
next-class : (k : Kind) (p : ℕ) → class_at k (p + classes k) ≡ class_at k p
next-class Square p = omega arith
next-class Triangle p = omega arith

next-time : (k : Kind) (t p : ℕ) → time_at k (suc t) (p + classes k) ≡ time_at k t p
next-time Square t p = omega arith
next-time Triangle t p = omega arith

module _ (R : Region) (bits : ℕ → ℕ → Bool) where
  -- the numbers after the first p classes
  abbrev pub counted : Kind → ℕ → ℕ → List ℤ → List ℤ
  counted k from zero numbers = numbers
  counted k from (suc p) numbers = class_swept R (bits (time_at k from p)) (class_at k p) (counted k from p numbers)

  first-sweep : (k : Kind) → R.kind ≡ k → (from : ℕ) (numbers : List ℤ) → counted k from (classes k) numbers ≡ swept R (bits from) numbers
  first-sweep Square kind from numbers =
      let now : from - 0 ≡ from = omega arith in
      ap (λ (t : ℕ). class_swept R (bits t) 1 (class_swept R (bits t) 0 numbers)) now ∙ sym (swept-squares R (bits from) numbers kind)
  first-sweep Triangle kind from numbers =
      let now : from - 0 ≡ from = omega arith in
      ap (λ (t : ℕ). class_swept R (bits t) 2 (class_swept R (bits t) 1 (class_swept R (bits t) 0 numbers))) now
      ∙ sym (swept-triangles R (bits from) numbers kind)

  -- what follows the first sweep is a stretch from the next time
  behind-first : (k : Kind) (t p : ℕ) (numbers : List ℤ) → counted k (suc t) (p + classes k) numbers ≡ counted k t p (counted k (suc t) (classes k) numbers)
  behind-first k t zero numbers = let e : 0 + classes k ≡ classes k = omega arith in ap (λ (n : ℕ). counted k (suc t) n numbers) e
  behind-first k t (suc p) numbers =
      let e : suc p + classes k ≡ suc (p + classes k) = omega arith in
      ap (λ (n : ℕ). counted k (suc t) n numbers) e
      ∙ (λ i. class_swept R (bits (next-time k t p i)) (next-class k p i) (counted k (suc t) (p + classes k) numbers))
      ∙ ap (class_swept R (bits (time_at k t p)) (class_at k p)) (behind-first k t p numbers)

  count-none : (k : Kind) → 0 * classes k ≡ 0
  count-none Square = refl
  count-none Triangle = refl

  count-more : (k : Kind) (t : ℕ) → suc t * classes k ≡ t * classes k + classes k
  count-more Square t = omega arith
  count-more Triangle t = omega arith

  pub counted-all : (k : Kind) → R.kind ≡ k → (from : ℕ) (numbers : List ℤ) → counted k from (from * classes k) numbers ≡ carried_numbers R bits from numbers
  counted-all k kind zero numbers = ap (λ (p : ℕ). counted k 0 p numbers) (count-none k)
  counted-all k kind (suc t) numbers =
      ap (λ (p : ℕ). counted k (suc t) p numbers) (count-more k t)
      ∙ (behind-first k t (t * classes k) numbers
      ∙ (ap (counted k t (t * classes k)) (first-sweep k kind (suc t) numbers)
      ∙ counted-all k kind t (swept R (bits (suc t)) numbers)))
