-- Bits that are set one by one, and those of the slots of a class.
use Rattle.std.proofs.Common.{◌≡◌, ℕ, ◌+◌, ◌*◌, ◌%◌, ◌^◌, ◌<◌, ◌⊎◌, inl, inr, Bool, true, false, ◌&&◌, ◌||◌, List, length, get_or, set, take, Result, Ok, Err, refl, sym, ◌∙◌, ap, get_or-set_other, get_or-set_same, arith}
use Rattle.std.specs.Int.{bit_at, w64}
use Rattle.std.specs.List.{list_any}
use Rattle.std.specs.Prelude.{◌==◌, bit_or, IfOk}
use Rattle.std.proofs.lemmas.Bool.{and_from, and_parts, cases_eq, eqb-true, eq-eqb, false_from_ne_true, or_cases, or_left, or_right}
use Rattle.std.proofs.lemmas.List.Folds.{list_any_more}
use Rattle.std.proofs.lemmas.Nat.Bits.{bit_at_set_other, bit_at_set_same}
use Rattle.tl_lists.proofs.Tests.{same_test}
use Rattle.tl_definitions.specs.declared.Kind.{Kind}
use Rattle.tl_definitions.specs.declared.Corner.{Corner}
use Rattle.tl_definitions.specs.Lattice.{class_of}
use Rattle.tl_definitions.specs.Region.{Region, inner_corners, is_inner}
use Rattle.tl_grid.specs.Survey.{inner_places, place_in}
use Rattle.tl_strings.specs.Strings.{row_of, slot_of, string_bit, word_place}
use Rattle.tl_layout.specs.declared.layout.Layout.{Layout}
use Rattle.tl_layout.specs.Layouts.{bit_by, corner_by, IsLayoutOf, size_of, word_by}
use Rattle.tl_layout.specs.Slots.{AreSlotsOf, is_at, is_at_bit}
use Rattle.tl_layout.proofs.Inner.{any-inner}
use Rattle.tl_layout.proofs.Stood.{bit-by, by-place, word-by, word-same}

or-false : (a b : Bool) → b ≡ false → (a || b) ≡ a
or-false true b e = refl
or-false false b e = e

-- ---- one bit more

mark-bit : (words : List ℕ) (place bit word x : ℕ) → place < length words → bit < 64
    → (bit_at (get_or (set words place (bit_or (get_or words place 0) (1 * 2 ^ bit % 2 ^ 64))) word 0) x == 1) ≡ ((bit_at (get_or words word 0) x == 1) || (place == word && bit == x))
mark-bit words place bit word x inside small = same_test _ _ to back
  where
    next : ℕ
    next = bit_or (get_or words place 0) (1 * 2 ^ bit % 2 ^ 64)

    other_word : (place ≡ word → ⊥) → bit_at (get_or (set words place next) word 0) x ≡ bit_at (get_or words word 0) x
    other_word n = ap (λ (m : ℕ). bit_at m x) (get_or-set_other words place word next 0 (λ e. n (sym e)))

    here : place ≡ word → get_or (set words place next) word 0 ≡ next
    here e = ap (λ (m : ℕ). get_or (set words place next) m 0) (sym e) ∙ get_or-set_same words place next 0 inside

    other_bit : place ≡ word → (bit ≡ x → ⊥) → bit_at (get_or (set words place next) word 0) x ≡ bit_at (get_or words word 0) x
    other_bit e n =
        ap (λ (m : ℕ). bit_at m x) (here e) ∙ bit_at_set_other w64 (get_or words place 0) bit small x (λ f. n (sym f))
        ∙ ap (λ (m : ℕ). bit_at (get_or words m 0) x) e

    this : place ≡ word → bit ≡ x → bit_at (get_or (set words place next) word 0) x ≡ 1
    this e f = ap (λ (m : ℕ). bit_at m x) (here e) ∙ ap (bit_at next) (sym f) ∙ bit_at_set_same w64 (get_or words place 0) bit small

    to : (bit_at (get_or (set words place next) word 0) x == 1) ≡ true → ((bit_at (get_or words word 0) x == 1) || (place == word && bit == x)) ≡ true
    to t = go (cases_eq place word) (cases_eq bit x)
      where
        go : (place ≡ word) ⊎ (place ≡ word → ⊥) → (bit ≡ x) ⊎ (bit ≡ x → ⊥) → ((bit_at (get_or words word 0) x == 1) || (place == word && bit == x)) ≡ true
        go (inl e) (inl f) = or_right (bit_at (get_or words word 0) x == 1) (place == word && bit == x) (and_from (place == word) (bit == x) (eq-eqb place word e) (eq-eqb bit x f))
        go (inl e) (inr n) = or_left (bit_at (get_or words word 0) x == 1) (place == word && bit == x) (ap (λ (m : ℕ). m == 1) (sym (other_bit e n)) ∙ t)
        go (inr n) m = or_left (bit_at (get_or words word 0) x == 1) (place == word && bit == x) (ap (λ (m : ℕ). m == 1) (sym (other_word n)) ∙ t)

    back : ((bit_at (get_or words word 0) x == 1) || (place == word && bit == x)) ≡ true → (bit_at (get_or (set words place next) word 0) x == 1) ≡ true
    back t = go (or_cases (bit_at (get_or words word 0) x == 1) (place == word && bit == x) t) (cases_eq place word) (cases_eq bit x)
      where
        go : ((bit_at (get_or words word 0) x == 1) ≡ true) ⊎ ((place == word && bit == x) ≡ true) → (place ≡ word) ⊎ (place ≡ word → ⊥) → (bit ≡ x) ⊎ (bit ≡ x → ⊥)
            → (bit_at (get_or (set words place next) word 0) x == 1) ≡ true
        go s (inl e) (inl f) = eq-eqb (bit_at (get_or (set words place next) word 0) x) 1 (this e f)
        go (inl old) (inl e) (inr n) = ap (λ (m : ℕ). m == 1) (other_bit e n) ∙ old
        go (inl old) (inr n) m = ap (λ (m : ℕ). m == 1) (other_word n) ∙ old
        go (inr both) (inl e) (inr n) = absurd (n (eqb-true bit x (and_parts (place == word) (bit == x) both).1))
        go (inr both) (inr n) m = absurd (n (eqb-true place word (and_parts (place == word) (bit == x) both).0))

-- ---- the places of a class

module _ (l : Layout) (class : ℕ) (places : List ℕ) (i : ℕ) (h : i < length places) where
  pub marked-kept : (words : List ℕ) → (class_of l.kind (corner_by l.width (get_or places i 0)) ≡ class → ⊥)
      → ((word x : ℕ) → x < 64 → (bit_at (get_or words word 0) x == 1) ≡ list_any (is_at_bit l class word x) (take i places))
      → (word x : ℕ) → x < 64 → (bit_at (get_or words word 0) x == 1) ≡ list_any (is_at_bit l class word x) (take (i + 1) places)
  marked-kept words other before word x small =
      before word x small ∙ sym (or-false (list_any (is_at_bit l class word x) (take i places)) (is_at_bit l class word x (get_or places i 0)) missed)
      ∙ sym (list_any_more (is_at_bit l class word x) places i 0 h)
    where
      missed : is_at_bit l class word x (get_or places i 0) ≡ false
      missed = false_from_ne_true _ (λ t. other (eqb-true _ _ (and_parts _ _ t).0))

  pub marked-more : (words : List ℕ) (place bit : ℕ) → class_of l.kind (corner_by l.width (get_or places i 0)) ≡ class
      → place ≡ word_by l (get_or places i 0) → bit ≡ bit_by l (get_or places i 0) → place < length words → bit < 64
      → ((word x : ℕ) → x < 64 → (bit_at (get_or words word 0) x == 1) ≡ list_any (is_at_bit l class word x) (take i places))
      → (word x : ℕ) → x < 64
      → (bit_at (get_or (set words place (bit_or (get_or words place 0) (1 * 2 ^ bit % 2 ^ 64))) word 0) x == 1) ≡ list_any (is_at_bit l class word x) (take (i + 1) places)
  marked-more words place bit of_class e f inside within before word x small =
      mark-bit words place bit word x inside within
      ∙ ap (λ (t : Bool). t || (place == word && bit == x)) (before word x small)
      ∙ ap (λ (t : Bool). list_any (is_at_bit l class word x) (take i places) || t) (sym found)
      ∙ sym (list_any_more (is_at_bit l class word x) places i 0 h)
    where
      p : ℕ
      p = get_or places i 0

      found : is_at_bit l class word x p ≡ (place == word && bit == x)
      found =
          ap (λ (t : Bool). t && (word_by l p == word && bit_by l p == x)) (eq-eqb (class_of l.kind (corner_by l.width p)) class of_class)
          ∙ ap (λ (n : ℕ). n == word && bit_by l p == x) (sym e) ∙ ap (λ (n : ℕ). place == word && n == x) (sym f)

-- ---- the slots of a class

pub marked-slots : (R : Region) (l : Layout) (class : ℕ) (places words : List ℕ) → IsLayoutOf R l → places ≡ inner_places R → length words ≡ size_of l
    → ((word x : ℕ) → x < 64 → (bit_at (get_or words word 0) x == 1) ≡ list_any (is_at_bit l class word x) places) → AreSlotsOf R l class words
marked-slots R l class places words layout list size bits = record { size = size; each = each }
  where
    each : (row slot : ℕ) → row < l.height → string_bit l.height words row slot ≡ list_any (is_at R.kind l.first class row slot) (inner_corners R)
    each row slot h =
        bits word x (omega arith) ∙ ap (list_any (is_at_bit l class word x)) list
        ∙ any-inner R (is_at_bit l class word x) (is_at R.kind l.first class row slot) same
      where
        word : ℕ
        word = word_place l.height row slot

        x : ℕ
        x = slot % 64

        same : (v : Corner) → is_inner R v ≡ true → is_at_bit l class word x (place_in (R.columns + 2) v) ≡ is_at R.kind l.first class row slot v
        same v inner =
            ap (λ (u : Corner). class_of l.kind u == class && (word_by l p == word && bit_by l p == x)) (by-place R l v layout inner)
            ∙ ap (λ (k : Kind). class_of k v == class && (word_by l p == word && bit_by l p == x)) layout.kind
            ∙ ap (λ (n : ℕ). class_of R.kind v == class && (n == word && bit_by l p == x)) (word-by R l v layout inner)
            ∙ ap (λ (n : ℕ). class_of R.kind v == class && (word_place l.height (row_of v) (slot_of R.kind l.first v) == word && n == x)) (bit-by R l v layout inner)
            ∙ ap (λ (t : Bool). class_of R.kind v == class && t) (same_test _ _ to back)
          where
            p : ℕ
            p = place_in (R.columns + 2) v

            to : (word_place l.height (row_of v) (slot_of R.kind l.first v) == word && slot_of R.kind l.first v % 64 == x) ≡ true
                → (row_of v == row && slot_of R.kind l.first v == slot) ≡ true
            to t =
                let parts = and_parts (word_place l.height (row_of v) (slot_of R.kind l.first v) == word) (slot_of R.kind l.first v % 64 == x) t in
                let stands = layout.stands v inner in
                let both =
                word-same l.height (row_of v) (slot_of R.kind l.first v) row slot (omega (arith, stands.row)) h
                (eqb-true (word_place l.height (row_of v) (slot_of R.kind l.first v)) word parts.0) (eqb-true (slot_of R.kind l.first v % 64) x parts.1)
                in
                and_from (row_of v == row) (slot_of R.kind l.first v == slot) (eq-eqb (row_of v) row both.0) (eq-eqb (slot_of R.kind l.first v) slot both.1)

            back : (row_of v == row && slot_of R.kind l.first v == slot) ≡ true
                → (word_place l.height (row_of v) (slot_of R.kind l.first v) == word && slot_of R.kind l.first v % 64 == x) ≡ true
            back t =
                let parts = and_parts (row_of v == row) (slot_of R.kind l.first v == slot) t in
                let rows : row_of v ≡ row = eqb-true (row_of v) row parts.0 in
                let slots : slot_of R.kind l.first v ≡ slot = eqb-true (slot_of R.kind l.first v) slot parts.1 in
                and_from (word_place l.height (row_of v) (slot_of R.kind l.first v) == word) (slot_of R.kind l.first v % 64 == x)
                (eq-eqb (word_place l.height (row_of v) (slot_of R.kind l.first v)) word
                (ap (λ (n : ℕ). word_place l.height n (slot_of R.kind l.first v)) rows ∙ ap (word_place l.height row) slots))
                (eq-eqb (slot_of R.kind l.first v % 64) x (ap (λ (n : ℕ). n % 64) slots))

pub marked-slots-ok : {A E : Type 0} (list : A → List ℕ) (R : Region) (l : Layout) (class : ℕ) (places : List ℕ) (r : Result A E) → IsLayoutOf R l → places ≡ inner_places R
    → IfOk r (λ a. length (list a) ≡ size_of l)
    → IfOk r (λ a. (word x : ℕ) → x < 64 → (bit_at (get_or (list a) word 0) x == 1) ≡ list_any (is_at_bit l class word x) places)
    → IfOk r (λ a. AreSlotsOf R l class (list a))
marked-slots-ok list R l class places (Ok a) layout e size bits = marked-slots R l class places (list a) layout e size bits
marked-slots-ok list R l class places (Err x) layout e size bits = tt
