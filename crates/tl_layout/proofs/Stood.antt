-- Corners and the words of their slots.
use Rattle.std.proofs.Common.{◌≡◌, ℕ, ◌+◌, ◌-◌, ◌*◌, ◌/◌, ◌%◌, ◌<◌, ◌≤◌, true, List, length, get_or, nat_cmp, take, Some, sym, ◌∙◌, ap, subst, arith}
use Rattle.std.specs.List.{All, slice_get}
use Rattle.std.specs.Ordering.{ord_max}
use Rattle.std.proofs.lemmas.Grind.{common_steps}
use Rattle.std.proofs.lemmas.Bool.{eqb-true}
use Rattle.std.proofs.lemmas.List.Elements.{All-more, All-weaker}
use Rattle.std.proofs.lemmas.Nat.{div-mul-add, mod-mul-add}
use Rattle.std.proofs.lemmas.Option.{slice_get-get_or}
use Rattle.std.proofs.Math.Nat.{mul-le-mul}
use Rattle.tl_definitions.specs.declared.Kind.{Kind}
use Rattle.tl_definitions.specs.declared.Kind.TheVariants.{Square, Triangle}
use Rattle.tl_definitions.specs.declared.Corner.{Corner}
use Rattle.tl_definitions.specs.declared.TheConstants.{SIDE_LIMIT}
use Rattle.tl_definitions.specs.Lattice.{corner, is_corner}
use Rattle.tl_definitions.specs.Region.{Region, inner_corners, is_inner}
use Rattle.tl_definitions.proofs.Corners.{corner-same}
use Rattle.tl_definitions.proofs.InnerNumbers.{inner-among, inner-at}
use Rattle.tl_grid.specs.Grid.{IsGrid}
use Rattle.tl_grid.specs.Survey.{inner_places, place_in}
use Rattle.tl_strings.specs.Strings.{column, row_of, slot_of, word_place}
use Rattle.tl_layout.specs.declared.layout.Layout.{Layout}
use Rattle.tl_layout.specs.Layouts.{bit_by, corner_by, IsBetween, IsLayoutOf, size_of, Stands, StandsBy, word_by}
use Rattle.tl_layout.proofs.Inner.{all-inner, at-inner, inner-by, is_one, one-number, place-at}

-- ---- one slot, one corner

-- a word of a strip tells the strip and the row
pub word-same : (height row slot other_row other : ℕ) → row < height → other_row < height → word_place height row slot ≡ word_place height other_row other → slot % 64 ≡ other % 64
    → (row ≡ other_row) × (slot ≡ other)
word-same height row slot other_row other h k e b =
    let strip : slot / 64 ≡ other / 64 = sym (div-mul-add (slot / 64) height row h) ∙ ap (λ (n : ℕ). n / height) e ∙ div-mul-add (other / 64) height other_row k in
    let rows : row ≡ other_row = sym (mod-mul-add (slot / 64) height row h) ∙ ap (λ (n : ℕ). n % height) e ∙ mod-mul-add (other / 64) height other_row k in
    (rows, omega (arith, strip, b))

column-same : (k : Kind) (u v : Corner) → is_corner k u ≡ true → is_corner k v ≡ true → u.r ≡ v.r → column k u ≡ column k v → u.x ≡ v.x
column-same Square u v a b row e = e
column-same Triangle u v a b row e = let c = eqb-true ((u.r + u.x) % 2) 1 a in let d = eqb-true ((v.r + v.x) % 2) 1 b in omega (arith, c, d, row, e)

pub corner-alone : (k : Kind) (first height size : ℕ) (u v : Corner) → is_corner k u ≡ true → is_corner k v ≡ true → Stands k first height size u → Stands k first height size v
    → word_place height (row_of u) (slot_of k first u) ≡ word_place height (row_of v) (slot_of k first v) → slot_of k first u % 64 ≡ slot_of k first v % 64 → u ≡ v
corner-alone k first height size u v a b s t e f =
    let same = word-same height (row_of u) (slot_of k first u) (row_of v) (slot_of k first v) (omega (arith, s.row)) (omega (arith, t.row)) e f in
    let row : u.r ≡ v.r = omega (arith, same.0) in
    let columns : column k u ≡ column k v = omega (arith, same.1, s.column, t.column) in
    corner-same u v row (column-same k u v a b row columns)

-- ---- in a layout

-- what the place of an inner corner tells
pub by-place : (R : Region) (l : Layout) (v : Corner) → IsLayoutOf R l → is_inner R v ≡ true → corner_by l.width (place_in (R.columns + 2) v) ≡ v
by-place R l v layout inner = ap (λ (n : ℕ). corner_by n (place_in (R.columns + 2) v)) layout.width ∙ inner-by R v layout.placed inner

pub word-by : (R : Region) (l : Layout) (v : Corner) → IsLayoutOf R l → is_inner R v ≡ true
    → word_by l (place_in (R.columns + 2) v) ≡ word_place l.height (row_of v) (slot_of R.kind l.first v)
word-by R l v layout inner =
    ap (λ (u : Corner). word_place l.height (row_of u) (slot_of l.kind l.first u)) (by-place R l v layout inner)
    ∙ ap (λ (k : Kind). word_place l.height (row_of v) (slot_of k l.first v)) layout.kind

pub bit-by : (R : Region) (l : Layout) (v : Corner) → IsLayoutOf R l → is_inner R v ≡ true → bit_by l (place_in (R.columns + 2) v) ≡ slot_of R.kind l.first v % 64
bit-by R l v layout inner =
    ap (λ (u : Corner). slot_of l.kind l.first u % 64) (by-place R l v layout inner) ∙ ap (λ (k : Kind). slot_of k l.first v % 64) layout.kind

pub all-stand : (R : Region) (l : Layout) → IsLayoutOf R l → All (StandsBy l) (inner_places R)
all-stand R l layout = all-inner R (StandsBy l) stand
  where
    stand : (v : Corner) → is_inner R v ≡ true → StandsBy l (place_in (R.columns + 2) v)
    stand v inner =
        subst (λ (u : Corner). Stands l.kind l.first l.height (size_of l) u) (sym (by-place R l v layout inner))
        (subst (λ (k : Kind). Stands k l.first l.height (size_of l) v) (sym layout.kind) (layout.stands v inner))

-- numbers with one slot are the same
pub number-alone : (R : Region) (l : Layout) (i j : ℕ) → IsLayoutOf R l → i < length (inner_corners R) → j < length (inner_corners R)
    → word_by l (get_or (inner_places R) i 0) ≡ word_by l (get_or (inner_places R) j 0) → bit_by l (get_or (inner_places R) i 0) ≡ bit_by l (get_or (inner_places R) j 0) → i ≡ j
number-alone R l i j layout h k e f =
    one-number R i j v (u_at ∙ ap (λ (w : Corner). Some w) same) v_at
  where
    u : Corner
    u = get_or (inner_corners R) i (corner 0 0)

    v : Corner
    v = get_or (inner_corners R) j (corner 0 0)

    u_at : slice_get (inner_corners R) i ≡ Some u
    u_at = slice_get-get_or (inner_corners R) i (corner 0 0) h

    v_at : slice_get (inner_corners R) j ≡ Some v
    v_at = slice_get-get_or (inner_corners R) j (corner 0 0) k

    u_inner : is_inner R u ≡ true
    u_inner = inner-at R u i u_at

    v_inner : is_inner R v ≡ true
    v_inner = inner-at R v j v_at

    words : word_place l.height (row_of u) (slot_of R.kind l.first u) ≡ word_place l.height (row_of v) (slot_of R.kind l.first v)
    words = sym (word-by R l u layout u_inner) ∙ sym (ap (word_by l) (place-at R i u u_at)) ∙ e ∙ ap (word_by l) (place-at R j v v_at) ∙ word-by R l v layout v_inner

    bits : slot_of R.kind l.first u % 64 ≡ slot_of R.kind l.first v % 64
    bits = sym (bit-by R l u layout u_inner) ∙ sym (ap (bit_by l) (place-at R i u u_at)) ∙ f ∙ ap (bit_by l) (place-at R j v v_at) ∙ bit-by R l v layout v_inner

    same : u ≡ v
    same = corner-alone R.kind l.first l.height (size_of l) u v (is_one R u u_inner) (is_one R v v_inner) (layout.stands u u_inner) (layout.stands v v_inner) words bits

-- ---- a layout of a region

pub columns-small : (R : Region) → IsGrid R → All (λ (place : ℕ). column R.kind (corner_by (R.columns + 2) place) < SIDE_LIMIT) (inner_places R)
columns-small R grid = all-inner R (λ (place : ℕ). column R.kind (corner_by (R.columns + 2) place) < SIDE_LIMIT) small
  where
    of_kind : (k : Kind) (v : Corner) → v.r < SIDE_LIMIT → v.x < SIDE_LIMIT → column k v < SIDE_LIMIT
    of_kind Square v h l = l
    of_kind Triangle v h l = omega (arith, h, l)

    small : (v : Corner) → is_inner R v ≡ true → column R.kind (corner_by (R.columns + 2) (place_in (R.columns + 2) v)) < SIDE_LIMIT
    small v inner =
        let among = inner-among R v grid.placed inner in
        subst (λ (u : Corner). column R.kind u < SIDE_LIMIT) (sym (inner-by R v grid.placed inner))
        (of_kind R.kind v (omega (arith, among.row, grid.rows_within)) (omega (arith, among.column, grid.columns_within)))

pub stands-from : (k : Kind) (first last strips rows : ℕ) (v : Corner) → first ≤ column k v → column k v ≤ last → strips ≡ (last + 65 - first) / 64 + 2 → v.r < rows
    → Stands k first (rows + 4) (strips * (rows + 4)) v
stands-from k first last strips rows v lower upper e row = record { column = lower; slot = omega (arith, lower); row = omega (arith, row); inside = inside }
  where
    strip : ℕ
    strip = (slot_of k first v + 1) / 64

    most : strip + 2 ≤ strips
    most = omega (arith, lower, upper, e)

    same : rows + 4 ≤ rows + 4
    same = omega arith

    inside : strip * (rows + 4) + row_of v + (rows + 4) + 1 < strips * (rows + 4)
    inside =
        let product : (strip + 2) * (rows + 4) ≤ strips * (rows + 4) = mul-le-mul most same in
        omega (arith, product, row)

-- the same of what the code has read
pub columns-small-by : (R : Region) (k : Kind) (columns : ℕ) (places : List ℕ) → IsGrid R → k ≡ R.kind → columns ≡ R.columns → places ≡ inner_places R
    → All (λ (place : ℕ). column k (corner_by (columns + 2) place) < SIDE_LIMIT) places
columns-small-by R k columns places grid e f g =
    subst (λ (kind : Kind). All (λ (place : ℕ). column kind (corner_by (columns + 2) place) < SIDE_LIMIT) places) (sym e)
    (subst (λ (n : ℕ). All (λ (place : ℕ). column R.kind (corner_by (n + 2) place) < SIDE_LIMIT) places) (sym f)
    (subst (λ (list : List ℕ). All (λ (place : ℕ). column R.kind (corner_by (R.columns + 2) place) < SIDE_LIMIT) list) (sym g) (columns-small R grid)))

pub above-both : (a b m : ℕ) → m ≡ ord_max nat_cmp a b → (a ≤ m) × (b ≤ m)
above-both a b m e = (grind (arith, common_steps), grind (arith, common_steps))

pub between-more : (k : Kind) (width first last next_first next_last i : ℕ) (places : List ℕ) → i < length places → next_first ≤ first → last ≤ next_last
    → next_first ≤ column k (corner_by width (get_or places i 0)) → column k (corner_by width (get_or places i 0)) ≤ next_last
    → All (IsBetween k width first last) (take i places) → All (IsBetween k width next_first next_last) (take (i + 1) places)
between-more k width first last next_first next_last i places h lower upper from to before =
    All-more (IsBetween k width next_first next_last) places i 0 h (All-weaker (IsBetween k width first last) (IsBetween k width next_first next_last) wider (take i places) before)
    (record { from = from; to = to })
  where
    wider : (place : ℕ) → IsBetween k width first last place → IsBetween k width next_first next_last place
    wider place is = record { from = omega (arith, is.from, lower); to = omega (arith, is.to, upper) }

pub layout-of : (R : Region) (l : Layout) (last : ℕ) (places : List ℕ) → IsGrid R → l.kind ≡ R.kind → l.width ≡ R.columns + 2 → l.height ≡ R.rows + 4 → l.strips ≡ (last + 65 - l.first) / 64 + 2
    → places ≡ inner_places R → All (IsBetween l.kind l.width l.first last) places → IsLayoutOf R l
layout-of R l last places grid kind width height strips list between = record { placed = grid.placed; kind = kind; width = width; height = height; stands = stands }
  where
    all : All (IsBetween R.kind (R.columns + 2) l.first last) (inner_places R)
    all =
        subst (λ (k : Kind). All (IsBetween k (R.columns + 2) l.first last) (inner_places R)) kind
        (subst (λ (n : ℕ). All (IsBetween l.kind n l.first last) (inner_places R)) width (subst (λ (ps : List ℕ). All (IsBetween l.kind l.width l.first last) ps) list between))

    stands : (v : Corner) → is_inner R v ≡ true → Stands R.kind l.first l.height (size_of l) v
    stands v inner =
        let is = at-inner R (IsBetween R.kind (R.columns + 2) l.first last) v grid.placed all inner in
        let corner : corner_by (R.columns + 2) (place_in (R.columns + 2) v) ≡ v = inner-by R v grid.placed inner in
        let from : l.first ≤ column R.kind v = subst (λ (u : Corner). l.first ≤ column R.kind u) corner is.from in
        let to : column R.kind v ≤ last = subst (λ (u : Corner). column R.kind u ≤ last) corner is.to in
        subst (λ (h : ℕ). Stands R.kind l.first h (l.strips * h) v) (sym height) (stands-from R.kind l.first last l.strips R.rows v from to strips (inner-among R v grid.placed inner).row)
