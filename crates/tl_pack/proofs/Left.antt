-- The height of an inner corner, from that of its left neighbour and the marks of both.
use Rattle.std.proofs.Common.{◌≡◌, ℕ, ◌+◌, ◌-◌, ◌%◌, ◌/◌, ◌<◌, ◌≤◌, ◌⊎◌, inl, inr, Bool, true, false, cond, List, refl, sym, ◌∙◌, ap, subst, arith, ℤ, pos, negsuc, ◌+ℤ◌, neg_ℤ, ◌≤ℤ◌}
use Rattle.std.specs.Prelude.{◌==◌, IsTrue}
use Rattle.std.proofs.Math.Nat.{mul-le-mul}
use Rattle.std.proofs.lemmas.Int.{ints}
use Rattle.std.proofs.lemmas.Bool.{and_parts, cases_eq, eqb-true, eq-eqb, ne_eqb, lt-ltb, le-ltb}
use Rattle.tl_definitions.specs.declared.Kind.{Kind}
use Rattle.tl_definitions.specs.declared.Kind.TheVariants.{Square, Triangle}
use Rattle.tl_definitions.specs.declared.Corner.{Corner}
use Rattle.tl_definitions.specs.Lattice.{class_of, is_corner, rise, cell_width}
use Rattle.tl_definitions.specs.Region.{Region, is_corner_of, is_inner, is_step}
use Rattle.tl_definitions.specs.Heights.{height, AreLawful}
use Rattle.tl_definitions.proofs.Steps.{IsMove, IsStepIn, IsStepOut, move-step, move-step_in}
use Rattle.tl_lists.proofs.Tests.{same_test}
use Rattle.tl_closing.proofs.Stated.{HasRing, inner-ring, inner-step_in, inner-step_out, left_corner, step-ends}
use Rattle.tl_marks.specs.Marks.{is_turned, mark, xor}
use Rattle.tl_marks.proofs.Stated.{crossed-value}
use Rattle.tl_strings.specs.Strings.{column, row_of, slot_of, string_bit, word_place}
use Rattle.tl_layout.specs.declared.layout.Layout.{Layout}
use Rattle.tl_layout.specs.Layouts.{IsLayoutOf, size_of, Stands}
use Rattle.tl_pack.specs.Packs.{AreHeld, climb_by, leads_left, left_class, rise_by, rise_in}

xor-back : (p q : Bool) → xor p q ≡ xor q p
xor-back true true = refl
xor-back true false = refl
xor-back false true = refl
xor-back false false = refl

-- ---- the step between the two

-- The corner is as far right as its left neighbour needs, and one step joins the two.
pub record IsBeside (R : Region) (k : Kind) (v : Corner) : Type 0 where
  pub row : 1 ≤ v.r
  pub column : cell_width k ≤ v.x
  pub joined : ((leads_left k v ≡ false) × IsTrue (is_step R (left_corner k v) v)) ⊎ ((leads_left k v ≡ true) × IsTrue (is_step R v (left_corner k v)))

beside : (R : Region) (v : Corner) → is_inner R v ≡ true → IsBeside R R.kind v
beside R v inner = go R.kind refl (and_parts _ _ inner).0 (inner-ring R v inner)
  where
    go : (k : Kind) → R.kind ≡ k → is_corner k v ≡ true → HasRing k R.cells v → IsBeside R k v
    go Square e odd ((a, i, row, back), p, q, r) = record { row = omega (arith, row); column = omega (arith, back); joined = which (cases_eq ((v.r + v.x) % 2) 1) }
      where
        left : ((v.r + (v.x - 1)) % 2 ≡ 1) → IsMove Square (left_corner Square v) v
        left n = inr (n, refl, inr (omega (arith, back)))

        right : ((v.r + v.x) % 2 ≡ 1) → IsMove Square v (left_corner Square v)
        right n = inr (n, refl, inl (omega (arith, back)))

        which : ((v.r + v.x) % 2 ≡ 1) ⊎ ((v.r + v.x) % 2 ≡ 1 → ⊥)
            → ((leads_left Square v ≡ false) × IsTrue (is_step R (left_corner Square v) v)) ⊎ ((leads_left Square v ≡ true) × IsTrue (is_step R v (left_corner Square v)))
        which (inl n) =
            inr (eq-eqb _ _ n, inner-step_out R v (left_corner Square v) inner (subst (λ (k : Kind). IsStepOut k v (left_corner Square v)) (sym e) (move-step Square v (left_corner Square v) (right n))))
        which (inr n) =
            inl (ne_eqb _ _ n, inner-step_in R v (left_corner Square v) inner (subst (λ (k : Kind). IsStepIn k (left_corner Square v) v) (sym e) (move-step_in Square (left_corner Square v) v (left (omega (arith, n, back))))))
    go Triangle e odd ((a, i, row, back), p, q, r, s, t) = record {
      row = omega (arith, row);
      column = omega (arith, back);
      joined =
          inl (refl, inner-step_in R v (left_corner Triangle v) inner (subst (λ (k : Kind). IsStepIn k (left_corner Triangle v) v) (sym e) (move-step_in Triangle (left_corner Triangle v) v (inl (refl, omega (arith, back))))));
    }

-- the step is turned exactly where the corner has class 0
turned : (k : Kind) (v : Corner) → cell_width k ≤ v.x → leads_left k v ≡ false → is_turned k (left_corner k v) v ≡ (class_of k v == 0)
turned Square v near right =
    lt-ltb (v.x - 1) v.x (omega (arith, near)) ∙ sym (eq-eqb ((v.r + v.x) % 2) 0 (omega (arith, ne)))
  where
    ne : (v.r + v.x) % 2 ≡ 1 → ⊥
    ne n = cc (right, eq-eqb _ _ n)
turned Triangle v near right = same_test _ _ to from
  where
    to : ((v.x - 2) % 3 == 1) ≡ true → (v.x % 3 == 0) ≡ true
    to e = let n = eqb-true ((v.x - 2) % 3) 1 e in eq-eqb (v.x % 3) 0 (omega (arith, n, near))

    from : (v.x % 3 == 0) ≡ true → ((v.x - 2) % 3 == 1) ≡ true
    from e = let n = eqb-true (v.x % 3) 0 e in eq-eqb ((v.x - 2) % 3) 1 (omega (arith, n, near))

turned-back : (k : Kind) (v : Corner) → cell_width k ≤ v.x → leads_left k v ≡ true → is_turned k v (left_corner k v) ≡ (class_of k v == 0)
turned-back Square v near left =
    le-ltb v.x (v.x - 1) (omega arith) ∙ sym (ne_eqb ((v.r + v.x) % 2) 0 ne)
  where
    ne : (v.r + v.x) % 2 ≡ 0 → ⊥
    ne n = let m = eqb-true ((v.r + v.x) % 2) 1 left in omega (arith, m, n)
turned-back Triangle v near left = cc left

turn : (x y c : ℤ) → x ≡ y +ℤ c → y ≡ x +ℤ neg_ℤ c
turn x y c e = omega (arith, ints, e)

-- The height of an inner corner.
pub told : (R : Region) (numbers : List ℤ) (v : Corner) → AreLawful R numbers → is_inner R v ≡ true
    → height R numbers v ≡ height R numbers (left_corner R.kind v) +ℤ rise_by R.kind v (mark R numbers v) (mark R numbers (left_corner R.kind v))
told R numbers v lawful inner = go b.joined
  where
    b : IsBeside R R.kind v
    b = beside R v inner

    w : Corner
    w = left_corner R.kind v

    h : ℤ
    h = height R numbers w

    go : ((leads_left R.kind v ≡ false) × IsTrue (is_step R w v)) ⊎ ((leads_left R.kind v ≡ true) × IsTrue (is_step R v w))
        → height R numbers v ≡ h +ℤ rise_by R.kind v (mark R numbers v) (mark R numbers w)
    go (inl (right, step)) =
        crossed-value R numbers lawful w v step
        ∙ ((λ i. h +ℤ cond (xor (xor-back (mark R numbers w) (mark R numbers v) i) (turned R.kind v b.column right i)) (negsuc (rise R.kind - 2)) (pos 1))
        ∙ (λ i. h +ℤ cond (sym right i) (neg_ℤ (climb_by R.kind v (mark R numbers v) (mark R numbers w))) (climb_by R.kind v (mark R numbers v) (mark R numbers w))))
    go (inr (left, step)) =
        turn h (height R numbers v) (climb_by R.kind v (mark R numbers v) (mark R numbers w))
        (crossed-value R numbers lawful v w step
        ∙ (λ i. height R numbers v +ℤ cond (xor (xor (mark R numbers v) (mark R numbers w)) (turned-back R.kind v b.column left i)) (negsuc (rise R.kind - 2)) (pos 1)))
        ∙ (λ i. h +ℤ cond (sym left i) (neg_ℤ (climb_by R.kind v (mark R numbers v) (mark R numbers w))) (climb_by R.kind v (mark R numbers v) (mark R numbers w)))

-- it is no far rise
pub rise-low : (k : Kind) (v : Corner) (here left : Bool) → negsuc 3 ≤ℤ rise_by k v here left
rise-low k v here left = go k (leads_left k v) (xor (xor here left) (class_of k v == 0))
  where
    go : (k : Kind) (s t : Bool) → negsuc 3 ≤ℤ cond s (neg_ℤ (cond t (negsuc (rise k - 2)) (pos 1))) (cond t (negsuc (rise k - 2)) (pos 1))
    go Square true true = omega (arith, ints)
    go Square true false = omega (arith, ints)
    go Square false true = omega (arith, ints)
    go Square false false = omega (arith, ints)
    go Triangle true true = omega (arith, ints)
    go Triangle true false = omega (arith, ints)
    go Triangle false true = omega (arith, ints)
    go Triangle false false = omega (arith, ints)

pub rise-high : (k : Kind) (v : Corner) (here left : Bool) → rise_by k v here left ≤ℤ pos 3
rise-high k v here left = go k (leads_left k v) (xor (xor here left) (class_of k v == 0))
  where
    go : (k : Kind) (s t : Bool) → cond s (neg_ℤ (cond t (negsuc (rise k - 2)) (pos 1))) (cond t (negsuc (rise k - 2)) (pos 1)) ≤ℤ pos 3
    go Square true true = omega (arith, ints)
    go Square true false = omega (arith, ints)
    go Square false true = omega (arith, ints)
    go Square false false = omega (arith, ints)
    go Triangle true true = omega (arith, ints)
    go Triangle true false = omega (arith, ints)
    go Triangle false true = omega (arith, ints)
    go Triangle false false = omega (arith, ints)

-- ---- the words are there

word-within : (k : Kind) (l : Layout) (v : Corner) (slot : ℕ) → Stands k l.first l.height (size_of l) v → slot ≤ slot_of k l.first v + 1
    → word_place l.height (row_of v) slot < size_of l
word-within k l v slot stands below =
    let strip : slot / 64 ≤ (slot_of k l.first v + 1) / 64 = omega (arith, below) in
    let same : l.height ≤ l.height = omega arith in
    omega (arith, mul-le-mul strip same, stands.inside)

-- ---- in strings

left-class : (k : Kind) (v : Corner) → cell_width k ≤ v.x → class_of k (left_corner k v) ≡ left_class k v
left-class Square v near = omega (arith, near)
left-class Triangle v near = omega (arith, near)

left-column : (k : Kind) (v : Corner) → cell_width k ≤ v.x → 1 ≤ v.r → column k (left_corner k v) + 1 ≡ column k v
left-column Square v near row = omega (arith, near)
left-column Triangle v near row = omega (arith, near, row)

-- The bits in the strings tell it.
pub told-in : (R : Region) (l : Layout) (strings : ℕ → List ℕ) (shift : ℕ) (numbers : List ℤ) (v : Corner) → IsLayoutOf R l → AreHeld R l strings shift numbers → shift ≤ 1
    → is_inner R v ≡ true → is_corner_of R v ≡ true → is_corner_of R (left_corner R.kind v) ≡ true
    → height R numbers v ≡ height R numbers (left_corner R.kind v) +ℤ rise_in l strings shift v
told-in R l strings shift numbers v layout held less inner of_region left_of_region =
    told R numbers v held.lawful inner
    ∙ ap (λ (z : ℤ). height R numbers w +ℤ z)
    ((λ i. rise_by R.kind v (sym here i) (sym left i))
    ∙ ap (λ (k : Kind). rise_by k v (string_bit l.height (strings (class_of k v)) (row_of v) (slot_of k l.first v + shift)) (string_bit l.height (strings (left_class k v)) (row_of v) (slot_of k l.first v + shift - 1))) (sym layout.kind))
  where
    w : Corner
    w = left_corner R.kind v

    near : cell_width R.kind ≤ v.x
    near = (beside R v inner).column

    stands : Stands R.kind l.first l.height (size_of l) v
    stands = layout.stands v inner

    columns : column R.kind w + 1 ≡ column R.kind v
    columns = left-column R.kind v near (beside R v inner).row

    slot : slot_of R.kind l.first v + shift - 1 ≡ slot_of R.kind l.first w + shift
    slot = omega (arith, columns, stands.column)

    here : string_bit l.height (strings (class_of R.kind v)) (row_of v) (slot_of R.kind l.first v + shift) ≡ mark R numbers v
    here = held.marks v of_region (omega (arith, stands.column)) (v, inner, omega arith) (word-within R.kind l v (slot_of R.kind l.first v + shift) stands (omega (arith, less)))

    left : string_bit l.height (strings (left_class R.kind v)) (row_of v) (slot_of R.kind l.first v + shift - 1) ≡ mark R numbers w
    left =
        (λ i. string_bit l.height (strings (sym (left-class R.kind v near) i)) (row_of v) (slot i))
        ∙ held.marks w left_of_region (omega (arith, stands.column, columns)) (v, inner, omega (arith, columns))
        (word-within R.kind l v (slot_of R.kind l.first w + shift) stands (omega (arith, less, stands.column, columns)))

pub left-within : (R : Region) (v : Corner) → is_inner R v ≡ true → (cell_width R.kind ≤ v.x) × (is_corner_of R (left_corner R.kind v) ≡ true)
left-within R v inner =
    let b = beside R v inner in
    (b.column, elim b.joined [ inl p ↦ (step-ends R (left_corner R.kind v) v p.1).0 | inr p ↦ (step-ends R v (left_corner R.kind v) p.1).1 ])
