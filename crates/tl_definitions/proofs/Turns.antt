-- How often the boundary leaves a corner, and comes to it.
use Rattle.std.proofs.Common.{◌≡◌, ◌≢◌, ℕ, zero, suc, ◌≤◌, ◌<◌, Bool, true, false, ◌&&◌, not, List, [], ◌∷◌, refl, sym, ◌∙◌, arith}
use Rattle.std.specs.List.{list_any}
use Rattle.std.specs.Prelude.{◌==◌, count_by, zip, map}
use Rattle.tl_definitions.specs.declared.Kind.{Kind}
use Rattle.tl_definitions.specs.declared.Kind.TheVariants.{Square, Triangle}
use Rattle.tl_definitions.specs.declared.Corner.{Corner}
use Rattle.tl_definitions.specs.declared.rings.Dart.{Dart}
use Rattle.tl_definitions.specs.Lattice.{cell_back, ring}
use Rattle.tl_definitions.specs.Region.{Region, has_at}
use Rattle.tl_definitions.specs.Accepted.{runs, is_pinch}
use Rattle.tl_lists.specs.Lists.{turned}
use Rattle.tl_definitions.specs.Darts.{darts, leaves, enters}
use Rattle.tl_lists.proofs.Members.{In, any-In}
use Rattle.tl_lists.proofs.Counts.{count_by-fails, count_zero, only-count_by}
use Rattle.std.proofs.lemmas.Bool.{and_parts, or_parts, eqb-true, leb-false}

-- The runs round a corner are as many as the darts along which the boundary comes to it.
pub runs-enters : (R : Region) (v : Corner) → runs R v ≡ count_by (enters R v) (darts R.kind)
runs-enters R v = go R.kind
  where
    go : (k : Kind) → (let inside = map (has_at R) (ring k v) in count_by (λ p. not p.0 && p.1) (zip inside (turned inside))) ≡ count_by (enters R v) (darts k)
    go Square = refl
    go Triangle = refl

-- ---- as often from the corner as to it

abbrev pub goes : Bool → Bool → Bool
goes a b = a && not b

abbrev comes : Bool → Bool → Bool
comes a b = not a && b

abbrev tally : List Bool → ℕ
tally bs = count_by (λ b. b) bs

abbrev pub every : (Bool → Bool) → Bool
every p = p true && p false

pub every-at : (p : Bool → Bool) → every p ≡ true → (b : Bool) → p b ≡ true
every-at p e true = (and_parts (p true) (p false) e).0
every-at p e false = (and_parts (p true) (p false) e).1

abbrev balanced_four : Bool → Bool → Bool → Bool → Bool
balanced_four a b c d =
    tally (goes a b ∷ goes b c ∷ goes c d ∷ goes d a ∷ []) == tally (comes a b ∷ comes b c ∷ comes c d ∷ comes d a ∷ [])

four : (a b c d : Bool) → balanced_four a b c d ≡ true
four a b c d =
    every-at (λ w. balanced_four a b c w)
    (every-at (λ z. every (λ w. balanced_four a b z w))
    (every-at (λ y. every (λ z. every (λ w. balanced_four a y z w)))
    (every-at (λ x. every (λ y. every (λ z. every (λ w. balanced_four x y z w)))) refl a) b) c) d

abbrev balanced_six : Bool → Bool → Bool → Bool → Bool → Bool → Bool
balanced_six a b c d e f =
    tally (goes a b ∷ goes b c ∷ goes c d ∷ goes d e ∷ goes e f ∷ goes f a ∷ [])
    == tally (comes a b ∷ comes b c ∷ comes c d ∷ comes d e ∷ comes e f ∷ comes f a ∷ [])

abbrev balanced_last : Bool → Bool → Bool → Bool → Bool
balanced_last a b c d = every (λ u. every (λ t. balanced_six a b c d u t))

six : (a b c d e f : Bool) → balanced_six a b c d e f ≡ true
six a b c d e f =
    every-at (λ t. balanced_six a b c d e t)
    (every-at (λ u. every (λ t. balanced_six a b c d u t))
    (every-at (λ w. balanced_last a b c w)
    (every-at (λ z. every (λ w. balanced_last a b z w))
    (every-at (λ y. every (λ z. every (λ w. balanced_last a y z w)))
    (every-at (λ x. every (λ y. every (λ z. every (λ w. balanced_last x y z w)))) refl a) b) c) d) e) f

-- At each corner the boundary leaves as often as it comes.
pub leaves-enters : (R : Region) (v : Corner) → count_by (leaves R v) (darts R.kind) ≡ count_by (enters R v) (darts R.kind)
leaves-enters R v = go R.kind
  where
    go : (k : Kind) → count_by (leaves R v) (darts k) ≡ count_by (enters R v) (darts k)
    go Square = eqb-true _ _ (four (has_at R (cell_back v 1 1)) (has_at R (cell_back v 1 0)) (has_at R (cell_back v 0 0)) (has_at R (cell_back v 0 1)))
    go Triangle =
        eqb-true _ _
        (six (has_at R (cell_back v 1 2)) (has_at R (cell_back v 1 1)) (has_at R (cell_back v 1 0)) (has_at R (cell_back v 0 0)) (has_at R (cell_back v 0 1)) (has_at R (cell_back v 0 2)))

-- ---- at most once, where there is no pinch

passes_once : {A : Type 0} (p : A → Bool) (xs : List A) (x : A) → count_by p xs ≤ 1 → In x xs → p x ≡ true → count_by p xs ≡ 1
passes_once p xs x h i e = go (count_by p xs) refl h
  where
    go : (n : ℕ) → count_by p xs ≡ n → n ≤ 1 → count_by p xs ≡ 1
    go zero f l = absurd (count_zero p xs x f i e)
    go (suc n) f l = omega (arith, f, l)

same_of_one : {A : Type 0} (p : A → Bool) (xs : List A) (x y : A) → count_by p xs ≤ 1 → In x xs → p x ≡ true → In y xs → p y ≡ true → x ≡ y
same_of_one p xs x y h i e j f =
    let (t, o) = only-count_by p xs (passes_once p xs x h i e) in
    o.only x i e ∙ sym (o.only y j f)

few_enter : (R : Region) (v : Corner) → is_pinch R v ≡ false → count_by (enters R v) (darts R.kind) ≤ 1
few_enter R v e =
    let few : runs R v < 2 = leb-false 2 (runs R v) e in
    omega (arith, few, runs-enters R v)

pub one_leaves : (R : Region) (v : Corner) (g h : Dart) → is_pinch R v ≡ false → In g (darts R.kind) → leaves R v g ≡ true → In h (darts R.kind) → leaves R v h ≡ true → g ≡ h
one_leaves R v g h e = same_of_one (leaves R v) (darts R.kind) g h (omega (arith, few_enter R v e, leaves-enters R v))

pub one_enters : (R : Region) (v : Corner) (g h : Dart) → is_pinch R v ≡ false → In g (darts R.kind) → enters R v g ≡ true → In h (darts R.kind) → enters R v h ≡ true → g ≡ h
one_enters R v g h e = same_of_one (enters R v) (darts R.kind) g h (few_enter R v e)

-- where the boundary comes to a corner, it leaves it, and the other way round
some_passes : {A : Type 0} (p : A → Bool) (xs : List A) → count_by p xs ≢ 0 → (x : A) × In x xs × (p x ≡ true)
some_passes {A} p xs h = go (list_any p xs) refl
  where
    go : (t : Bool) → list_any p xs ≡ t → (x : A) × In x xs × (p x ≡ true)
    go true e = any-In p xs e
    go false e = absurd (h (none xs e))
      where
        none : (ys : List A) → list_any p ys ≡ false → count_by p ys ≡ 0
        none [] f = refl
        none (y ∷ ys) f =
            let q : (p y ≡ false) × (list_any p ys ≡ false) = or_parts (p y) (list_any p ys) f in
            count_by-fails p y ys q.0 ∙ none ys q.1

pub leaves_where_enters : (R : Region) (v : Corner) (g : Dart) → In g (darts R.kind) → enters R v g ≡ true → (h : Dart) × In h (darts R.kind) × (leaves R v h ≡ true)
leaves_where_enters R v g i e =
    some_passes (leaves R v) (darts R.kind) (λ z. count_zero (enters R v) (darts R.kind) g (sym (leaves-enters R v) ∙ z) i e)
