-- Strings that hold the marks of heights.
use Rattle.std.proofs.Common.{◌≡◌, ℕ, ◌+◌, ◌<◌, ◌≤◌, ◌⊎◌, inl, inr, true, List, refl, sym, ◌∙◌, subst, arith, ℤ}
use Rattle.std.proofs.lemmas.Bool.{cases_eq}
use Rattle.tl_definitions.specs.declared.Kind.{Kind}
use Rattle.tl_definitions.specs.declared.Kind.TheVariants.{Square, Triangle}
use Rattle.tl_definitions.specs.declared.Corner.{Corner}
use Rattle.tl_definitions.specs.Lattice.{class_of}
use Rattle.tl_definitions.specs.Region.{Region, is_corner_of}
use Rattle.tl_definitions.specs.Heights.{AreLawful}
use Rattle.tl_marks.specs.Marks.{mark}
use Rattle.tl_strings.specs.Strings.{column, row_of, slot_of, string_bit, word_place}
use Rattle.tl_layout.specs.declared.layout.Layout.{Layout}
use Rattle.tl_layout.specs.Layouts.{size_of}
use Rattle.tl_packing.specs.Packing.{HoldsMarks, IsReached}
use Rattle.tl_pack.specs.Packs.{AreHeld, HoldsClass, strings_of}

pub held-from : (R : Region) (l : Layout) (strings : ℕ → List ℕ) (shift : ℕ) (numbers : List ℤ) → AreLawful R numbers → HoldsMarks R l.height l.first numbers strings shift
    → AreHeld R l strings shift numbers
held-from R l strings shift numbers lawful holds = record { lawful = lawful; marks = λ v of_region near reached within. holds v of_region near reached }

pub packed-held : (R : Region) (l : Layout) (numbers : List ℤ) (first second third : List ℕ) → AreLawful R numbers → HoldsClass R l numbers 0 first → HoldsClass R l numbers 1 second
    → (R.kind ≡ Triangle → HoldsClass R l numbers 2 third) → AreHeld R l (strings_of first second third) 0 numbers
packed-held R l numbers first second third lawful a b c = record { lawful = lawful; marks = marks }
  where
    marks : (v : Corner) → is_corner_of R v ≡ true → l.first ≤ column R.kind v + 1 → IsReached R v → word_place l.height (row_of v) (slot_of R.kind l.first v + 0) < size_of l
        → string_bit l.height (strings_of first second third (class_of R.kind v)) (row_of v) (slot_of R.kind l.first v + 0) ≡ mark R numbers v
    marks v of_region near reached within = go (cases_eq (class_of R.kind v) 0) (cases_eq (class_of R.kind v) 1)
      where
        same : slot_of R.kind l.first v + 0 ≡ slot_of R.kind l.first v
        same = omega arith

        there : word_place l.height (row_of v) (slot_of R.kind l.first v) < size_of l
        there = subst (λ (slot : ℕ). word_place l.height (row_of v) slot < size_of l) same within

        at : (class : ℕ) → class_of R.kind v ≡ class → HoldsClass R l numbers class (strings_of first second third class)
            → string_bit l.height (strings_of first second third (class_of R.kind v)) (row_of v) (slot_of R.kind l.first v + 0) ≡ mark R numbers v
        at class e holds = (λ i. string_bit l.height (strings_of first second third (e i)) (row_of v) (same i)) ∙ holds v of_region e near there

        last : (k : Kind) → R.kind ≡ k → (class_of R.kind v ≡ 0 → ⊥) → (class_of R.kind v ≡ 1 → ⊥) → (R.kind ≡ Triangle) × (class_of R.kind v ≡ 2)
        last Square e m n =
            let two : class_of R.kind v < 2 = subst (λ (k : Kind). class_of k v < 2) (sym e) (omega arith) in
            absurd (omega (arith, m, n, two))
        last Triangle e m n =
            let three : class_of R.kind v < 3 = subst (λ (k : Kind). class_of k v < 3) (sym e) (omega arith) in
            (e, omega (arith, m, n, three))

        go : (class_of R.kind v ≡ 0) ⊎ (class_of R.kind v ≡ 0 → ⊥) → (class_of R.kind v ≡ 1) ⊎ (class_of R.kind v ≡ 1 → ⊥)
            → string_bit l.height (strings_of first second third (class_of R.kind v)) (row_of v) (slot_of R.kind l.first v + 0) ≡ mark R numbers v
        go (inl e) n = at 0 e a
        go (inr m) (inl e) = at 1 e b
        go (inr m) (inr n) = let t = last R.kind refl m n in at 2 t.1 (c t.0)
