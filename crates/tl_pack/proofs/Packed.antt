-- Marks that are set one by one.
use Rattle.std.proofs.Common.{◌≡◌, ℕ, ◌+◌, ◌*◌, ◌/◌, ◌%◌, ◌^◌, ◌<◌, ◌≤◌, ◌⊎◌, inl, inr, Bool, true, false, ◌&&◌, ◌||◌, List, length, get_or, set, sym, ◌∙◌, ap, subst, arith, get_or-set_other, get_or-set_same, ℤ, pos, ◌-ℤ◌}
use Rattle.std.specs.Int.{bit_at, w64}
use Rattle.std.specs.Prelude.{◌==◌, bit_or}
use Rattle.std.proofs.Math.Nat.{mul-le-mul}
use Rattle.std.proofs.lemmas.Bool.{and_from, and_parts, cases_eq, cases_lt, eqb-true, eq-eqb, lt-ltb, ltb-true, or_cases, or_left, or_right}
use Rattle.std.proofs.lemmas.Nat.{div-add-mod'}
use Rattle.std.proofs.lemmas.Nat.Bits.{bit_at_above, bit_at_set_other, bit_at_set_same}
use Rattle.tl_lists.proofs.Tests.{same_test}
use Rattle.tl_definitions.specs.declared.Kind.{Kind}
use Rattle.tl_definitions.specs.declared.Kind.TheVariants.{Square, Triangle}
use Rattle.tl_definitions.specs.declared.Corner.{Corner}
use Rattle.tl_definitions.specs.Lattice.{class_of, is_corner}
use Rattle.tl_definitions.specs.Region.{Region, is_corner_of}
use Rattle.tl_definitions.specs.Heights.{height, height_count}
use Rattle.tl_definitions.proofs.Corners.{corner-same}
use Rattle.tl_closing.proofs.Stated.{corner-within, place}
use Rattle.tl_marks.specs.Marks.{base, is_upper_half, mark}
use Rattle.tl_strings.specs.Strings.{column, row_of, slot_of, string_bit, word_place}
use Rattle.tl_layout.specs.declared.layout.Layout.{Layout}
use Rattle.tl_layout.specs.Layouts.{bit_by, corner_by, IsLayoutOf, row_by, size_of, slot_by, word_by}
use Rattle.tl_layout.proofs.Stated.{corner-by, word-same}
use Rattle.tl_pack.specs.Packs.{ArePacked, HasSlot, is_in_strings, is_set_at, IsSetAt}

-- ---- one bit more

pub mark-bit : (words : List ℕ) (place bit word x : ℕ) → place < length words → bit < 64
    → (bit_at (get_or (set words place (bit_or (get_or words place 0) (1 * 2 ^ bit % 2 ^ 64))) word 0) x == 1) ≡ ((bit_at (get_or words word 0) x == 1) || (place == word && bit == x))
mark-bit words place bit word x inside small = same_test _ _ to back
  where
    next : ℕ
    next = bit_or (get_or words place 0) (1 * 2 ^ bit % 2 ^ 64)

    other_word : (place ≡ word → ⊥) → bit_at (get_or (set words place next) word 0) x ≡ bit_at (get_or words word 0) x
    other_word n = ap (λ (m : ℕ). bit_at m x) (get_or-set_other words place word next 0 (λ e. n (sym e)))

    here : place ≡ word → get_or (set words place next) word 0 ≡ next
    here e = ap (λ (m : ℕ). get_or (set words place next) m 0) (sym e) ∙ get_or-set_same words place next 0 inside

    other_bit : place ≡ word → (bit ≡ x → ⊥) → bit_at (get_or (set words place next) word 0) x ≡ bit_at (get_or words word 0) x
    other_bit e n =
        ap (λ (m : ℕ). bit_at m x) (here e) ∙ bit_at_set_other w64 (get_or words place 0) bit small x (λ f. n (sym f))
        ∙ ap (λ (m : ℕ). bit_at (get_or words m 0) x) e

    this : place ≡ word → bit ≡ x → bit_at (get_or (set words place next) word 0) x ≡ 1
    this e f = ap (λ (m : ℕ). bit_at m x) (here e) ∙ ap (bit_at next) (sym f) ∙ bit_at_set_same w64 (get_or words place 0) bit small

    to : (bit_at (get_or (set words place next) word 0) x == 1) ≡ true → ((bit_at (get_or words word 0) x == 1) || (place == word && bit == x)) ≡ true
    to t = go (cases_eq place word) (cases_eq bit x)
      where
        go : (place ≡ word) ⊎ (place ≡ word → ⊥) → (bit ≡ x) ⊎ (bit ≡ x → ⊥) → ((bit_at (get_or words word 0) x == 1) || (place == word && bit == x)) ≡ true
        go (inl e) (inl f) = or_right (bit_at (get_or words word 0) x == 1) (place == word && bit == x) (and_from (place == word) (bit == x) (eq-eqb place word e) (eq-eqb bit x f))
        go (inl e) (inr n) = or_left (bit_at (get_or words word 0) x == 1) (place == word && bit == x) (ap (λ (m : ℕ). m == 1) (sym (other_bit e n)) ∙ t)
        go (inr n) m = or_left (bit_at (get_or words word 0) x == 1) (place == word && bit == x) (ap (λ (m : ℕ). m == 1) (sym (other_word n)) ∙ t)

    back : ((bit_at (get_or words word 0) x == 1) || (place == word && bit == x)) ≡ true → (bit_at (get_or (set words place next) word 0) x == 1) ≡ true
    back t = go (or_cases (bit_at (get_or words word 0) x == 1) (place == word && bit == x) t) (cases_eq place word) (cases_eq bit x)
      where
        go : ((bit_at (get_or words word 0) x == 1) ≡ true) ⊎ ((place == word && bit == x) ≡ true) → (place ≡ word) ⊎ (place ≡ word → ⊥) → (bit ≡ x) ⊎ (bit ≡ x → ⊥)
            → (bit_at (get_or (set words place next) word 0) x == 1) ≡ true
        go s (inl e) (inl f) = eq-eqb (bit_at (get_or (set words place next) word 0) x) 1 (this e f)
        go (inl old) (inl e) (inr n) = ap (λ (m : ℕ). m == 1) (other_bit e n) ∙ old
        go (inl old) (inr n) m = ap (λ (m : ℕ). m == 1) (other_word n) ∙ old
        go (inr both) (inl e) (inr n) = absurd (n (eqb-true bit x (and_parts (place == word) (bit == x) both).1))
        go (inr both) (inr n) m = absurd (n (eqb-true place word (and_parts (place == word) (bit == x) both).0))

-- ---- what a test of a corner tells

pub record IsIn (l : Layout) (class : ℕ) (v : Corner) : Type 0 where
  pub is_one : is_corner l.kind v ≡ true
  pub of_class : class_of l.kind v ≡ class
  pub near : l.first ≤ column l.kind v + 1
  pub within : word_place l.height (row_of v) (slot_of l.kind l.first v) < size_of l

pub is-in : (l : Layout) (class : ℕ) (v : Corner) → is_in_strings l class v ≡ true → IsIn l class v
is-in l class v t =
    let p = and_parts _ _ t in
    let q = and_parts _ _ p.1 in
    let r = and_parts _ _ q.1 in
    let near : l.first < column l.kind v + 2 = ltb-true _ _ r.0 in
    record { is_one = p.0; of_class = eqb-true _ _ q.0; near = omega (arith, near); within = ltb-true _ _ r.1 }

in-from : (l : Layout) (class : ℕ) (v : Corner) → IsIn l class v → is_in_strings l class v ≡ true
in-from l class v is =
    let near : l.first < column l.kind v + 2 = omega (arith, is.near) in
    and_from _ _ is.is_one (and_from _ _ (eq-eqb _ _ is.of_class) (and_from _ _ (lt-ltb _ _ near) (lt-ltb _ _ is.within)))

column-same : (k : Kind) (u v : Corner) → is_corner k u ≡ true → is_corner k v ≡ true → u.r ≡ v.r → column k u ≡ column k v → u.x ≡ v.x
column-same Square u v a b row e = e
column-same Triangle u v a b row e = let c = eqb-true ((u.r + u.x) % 2) 1 a in let d = eqb-true ((v.r + v.x) % 2) 1 b in omega (arith, c, d, row, e)

-- corners with one row and one slot are the same
one-corner : (l : Layout) (class : ℕ) (u v : Corner) → IsIn l class u → IsIn l class v → row_of u ≡ row_of v → slot_of l.kind l.first u ≡ slot_of l.kind l.first v → u ≡ v
one-corner l class u v a b row slot =
    let rows : u.r ≡ v.r = omega (arith, row) in
    let columns : column l.kind u ≡ column l.kind v = omega (arith, slot, a.near, b.near) in
    corner-same u v rows (column-same l.kind u v a.is_one b.is_one rows columns)

-- ---- place by place

pub none-packed : (l : Layout) (class : ℕ) (numbers : List ℤ) (words : List ℕ) → length words ≡ size_of l → ((k : ℕ) → get_or words k 0 ≡ 0) → ArePacked l class numbers 0 words
none-packed l class numbers words size none = record {
  size = size;
  all = λ p h. absurd (omega (arith, h));
  only = λ row slot h t. absurd (empty (word_place l.height row slot) (slot % 64) (eqb-true _ _ t));
}
  where
    zero_bit : (x : ℕ) → bit_at 0 x ≡ 0
    zero_bit x = bit_at_above 0 0 x (omega arith) (omega arith)

    empty : (k x : ℕ) → bit_at (get_or words k 0) x ≡ 1 → ⊥
    empty k x e = omega (arith, e, ap (λ (m : ℕ). bit_at m x) (none k) ∙ zero_bit x)

module _ (l : Layout) (class : ℕ) (numbers : List ℤ) (i : ℕ) (words : List ℕ) (are : ArePacked l class numbers i words) where
  later : (row slot : ℕ) → (p : ℕ) × IsSetAt l class numbers i row slot p → (p : ℕ) × IsSetAt l class numbers (i + 1) row slot p
  later row slot (p, is) = (p, record { below = omega (arith, is.below); is_set = is.is_set; row_is = is.row_is; slot_is = is.slot_is })

  pub kept-packed : is_set_at l class numbers i ≡ false → ArePacked l class numbers (i + 1) words
  kept-packed unset = record { size = are.size; all = λ p h t. all p h t (cases_eq p i); only = λ row slot h t. later row slot (are.only row slot h t) }
    where
      all : (p : ℕ) → p < i + 1 → is_set_at l class numbers p ≡ true → (p ≡ i) ⊎ (p ≡ i → ⊥) → string_bit l.height words (row_by l p) (slot_by l p) ≡ true
      all p h t (inl e) = cc (t, ap (is_set_at l class numbers) e, unset)
      all p h t (inr n) = are.all p (omega (arith, h, n)) t

  pub more-packed : (new : List ℕ) → length new ≡ length words → is_set_at l class numbers i ≡ true → row_by l i < l.height
      → ((word x : ℕ) → (bit_at (get_or new word 0) x == 1) ≡ ((bit_at (get_or words word 0) x == 1) || (word_by l i == word && bit_by l i == x)))
      → ArePacked l class numbers (i + 1) new
  more-packed new size is tall bits = record {
    size = size ∙ are.size;
    all = λ p h t. bits (word_by l p) (bit_by l p) ∙ all p h t (cases_eq p i);
    only = λ row slot h t. only row slot h (or_cases _ _ (sym (bits (word_place l.height row slot) (slot % 64)) ∙ t));
  }
    where
      all : (p : ℕ) → p < i + 1 → is_set_at l class numbers p ≡ true → (p ≡ i) ⊎ (p ≡ i → ⊥)
          → ((bit_at (get_or words (word_by l p) 0) (bit_by l p) == 1) || (word_by l i == word_by l p && bit_by l i == bit_by l p)) ≡ true
      all p h t (inl e) = or_right _ _ (and_from _ _ (eq-eqb _ _ (sym (ap (word_by l) e))) (eq-eqb _ _ (sym (ap (bit_by l) e))))
      all p h t (inr n) = or_left _ _ (are.all p (omega (arith, h, n)) t)

      only : (row slot : ℕ) → row < l.height
          → ((bit_at (get_or words (word_place l.height row slot) 0) (slot % 64) == 1) ≡ true) ⊎ ((word_by l i == word_place l.height row slot && bit_by l i == slot % 64) ≡ true)
          → (p : ℕ) × IsSetAt l class numbers (i + 1) row slot p
      only row slot h (inl old) = later row slot (are.only row slot h old)
      only row slot h (inr this) =
          let both = and_parts _ _ this in
          let same = word-same l.height (row_by l i) (slot_by l i) row slot tall h (eqb-true _ _ both.0) (eqb-true _ _ both.1) in
          (i, record { below = omega arith; is_set = is; row_is = same.0; slot_is = same.1 })

-- ---- all places

module _ (R : Region) (l : Layout) (class : ℕ) (numbers : List ℤ) (words : List ℕ) (layout : IsLayoutOf R l) (count : length numbers ≡ height_count R)
    (are : ArePacked l class numbers (length numbers) words) where
  -- what is set at a place, by the corner there
  has-slot : (row slot p : ℕ) → IsSetAt l class numbers (length numbers) row slot p → IsIn l class (corner_by l.width p) × HasSlot l.kind l.first class row slot (corner_by l.width p)
  has-slot row slot p is =
      let inside = is-in l class (corner_by l.width p) (and_parts _ _ is.is_set).0 in
      (inside, record { is_one = inside.is_one; of_class = inside.of_class; not_before = inside.near; row_is = is.row_is; slot_is = is.slot_is })

  pub packed-only : (row slot : ℕ) → row < l.height → string_bit l.height words row slot ≡ true → (v : Corner) × HasSlot R.kind l.first class row slot v
  packed-only row slot h t =
      let (p, is) = are.only row slot h t in
      (corner_by l.width p, subst (λ (k : Kind). HasSlot k l.first class row slot (corner_by l.width p)) layout.kind (has-slot row slot p is).1)

  module _ (v : Corner) (of_region : is_corner_of R v ≡ true) (is_one : is_corner R.kind v ≡ true) (of_class : class_of R.kind v ≡ class)
      (near : l.first ≤ column R.kind v + 1) (within : word_place l.height (row_of v) (slot_of R.kind l.first v) < size_of l) where
    inside : (v.r < R.rows + 1) × (v.x < R.columns + 2)
    inside = corner-within R v layout.placed of_region

    -- the place of the corner
    abbrev p : ℕ
    p = place R v

    there : corner_by l.width p ≡ v
    there = ap (λ (n : ℕ). corner_by n p) layout.width ∙ corner-by (R.columns + 2) v inside.1

    below : p < length numbers
    below =
        let rows : v.r + 1 ≤ R.rows + 1 = omega (arith, inside.0) in
        let width : R.columns + 2 ≤ R.columns + 2 = omega arith in
        omega (arith, count, mul-le-mul rows width, inside.1)

    is_in : IsIn l class v
    is_in = record {
      is_one = subst (λ (k : Kind). is_corner k v ≡ true) (sym layout.kind) is_one;
      of_class = subst (λ (k : Kind). class_of k v ≡ class) (sym layout.kind) of_class;
      near = subst (λ (k : Kind). l.first ≤ column k v + 1) (sym layout.kind) near;
      within = subst (λ (k : Kind). word_place l.height (row_of v) (slot_of k l.first v) < size_of l) (sym layout.kind) within;
    }

    -- its mark, as the words tell it
    abbrev half : Kind → Bool
    half k = is_upper_half k (height R numbers v -ℤ base k v)

    -- the number at a place of the same corner
    number : (q : ℕ) → corner_by l.width q ≡ v → is_upper_half l.kind (get_or numbers q (pos 0) -ℤ base l.kind (corner_by l.width q)) ≡ half l.kind
    number q same = λ i. is_upper_half l.kind (get_or numbers (at i) (pos 0) -ℤ base l.kind (same i))
      where
        at : q ≡ v.r * (R.columns + 2) + v.x
        at =
            let rows : q / l.width ≡ v.r = ap (λ (w : Corner). w.r) same in
            let columns : q % l.width ≡ v.x = ap (λ (w : Corner). w.x) same in
            sym (div-add-mod' q l.width)
            ∙ ((λ i. rows i * l.width + columns i) ∙ ap (λ (n : ℕ). v.r * n + v.x) layout.width)

    from : half l.kind ≡ true → string_bit l.height words (row_of v) (slot_of l.kind l.first v) ≡ true
    from t =
        subst (λ (w : Corner). string_bit l.height words (row_of w) (slot_of l.kind l.first w) ≡ true) there
        (are.all p below (and_from _ _ (subst (λ (w : Corner). is_in_strings l class w ≡ true) (sym there) (in-from l class v is_in)) (number p there ∙ t)))

    to : string_bit l.height words (row_of v) (slot_of l.kind l.first v) ≡ true → half l.kind ≡ true
    to t =
        let (q, is) = are.only (row_of v) (slot_of l.kind l.first v) (omega (arith, inside.0, layout.height)) t in
        let slot = has-slot (row_of v) (slot_of l.kind l.first v) q is in
        let same : corner_by l.width q ≡ v = one-corner l class (corner_by l.width q) v slot.0 is_in is.row_is is.slot_is in
        sym (number q same) ∙ (and_parts _ _ is.is_set).1

    pub packed-holds : string_bit l.height words (row_of v) (slot_of R.kind l.first v) ≡ mark R numbers v
    packed-holds = subst (λ (k : Kind). string_bit l.height words (row_of v) (slot_of k l.first v) ≡ half k) layout.kind (same_test _ _ to from)

-- ---- the row of a place

pub row-tall : (n width height count : ℕ) → n < count → count + 3 * width ≤ height * width → n / width + 1 < height
row-tall n width height count below few = go (cases_lt (n / width + 1) height)
  where
    go : (n / width + 1 < height) ⊎ (height ≤ n / width + 1) → n / width + 1 < height
    go (inl h) = h
    go (inr h) =
        let same : width ≤ width = omega arith in
        absurd (omega (arith, mul-le-mul h same, div-add-mod' n width, below, few))
