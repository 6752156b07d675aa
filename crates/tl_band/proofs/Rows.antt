-- The words of one row of a string, as bits of its slots.
use Rattle.std.proofs.Common.{◌≡◌, ℕ, suc, ◌+◌, ◌*◌, ◌/◌, ◌%◌, ◌<◌, ◌≤◌, ◌⊎◌, inl, inr, Bool, true, false, List, length, sym, ◌∙◌, ap, subst, arith}
use Rattle.std.specs.Int.{bit_at}
use Rattle.std.specs.Prelude.{◌==◌, slice_index}
use Rattle.std.proofs.lemmas.Bool.{cases_Bool, cases_lt, eqb-false, eqb-true}
use Rattle.std.proofs.Math.Nat.{mul-le-mul_right}
use Rattle.tl_definitions.specs.declared.Kind.{Kind}
use Rattle.tl_definitions.specs.declared.Kind.TheVariants.{Square, Triangle}
use Rattle.tl_definitions.specs.Lattice.{classes}
use Rattle.tl_definitions.specs.Region.{Region}
use Rattle.tl_border.specs.declared.row.Row.{Row}
use Rattle.tl_border.specs.Rows.{bits_of_row, slot_bit}
use Rattle.tl_border.proofs.Bits.{slots-each, slots-made}
use Rattle.tl_strings.specs.Strings.{string_bit, word_place}
use Rattle.tl_layout.specs.declared.layout.Layout.{Layout}
use Rattle.tl_layout.specs.Layouts.{size_of}
use Rattle.tl_packed.specs.declared.strings.Strings.{Strings}
use Rattle.tl_packed.specs.OfClasses.{AreOfLayout, of_class}
use Rattle.tl_row_sweep.specs.Rows.{AreKeptBeside, AreOthersKept}
use Rattle.tl_courses.specs.Courses.{Course, IsCourseOf, after, bits_of, class_at}
use Rattle.tl_courses.proofs.Stated.{after-other_class, after-past, bits-past}
use Rattle.tl_band.specs.Words.{AreWordsOf}
use Rattle.tl_band.specs.Handed.{row_at}
use Rattle.tl_band.specs.Edges.{IsRowAfter}

pub below-3 : (kind : Kind) (class : ℕ) → class < classes kind → class < 3
below-3 Square class within = omega (arith, within)
below-3 Triangle class within = omega (arith, within)

within-classes : (k : Kind) (p : ℕ) → class_at k p < classes k
within-classes Square p = omega arith
within-classes Triangle p = omega arith

-- the bit of a slot in the words of a row
pub words-bit : (l : Layout) (row : ℕ) (string words : List ℕ) → AreWordsOf l row string words → (slot : ℕ) → slot < 64 * l.strips
    → slot_bit words slot ≡ string_bit l.height string row slot
words-bit l row string words are slot within = let strip : slot / 64 < l.strips = omega (arith, within) in ap (λ (w : ℕ). bit_at w (slot % 64) == 1) (are (slot / 64) strip)

-- slots behind the last strip have no word
pub past-strips : (l : Layout) (row slot : ℕ) → 64 * l.strips ≤ slot → size_of l ≤ word_place l.height row slot
past-strips l row slot past =
    let strip : l.strips ≤ slot / 64 = omega (arith, past) in
    let start = mul-le-mul_right l.height strip in
    omega (arith, start)

-- a word that a row keeps has its bits
pub kept-bit : (height row slot : ℕ) (old new : List ℕ) → slice_index new (slot / 64 * height + row) ≡ slice_index old (slot / 64 * height + row)
    → string_bit height new row slot ≡ string_bit height old row slot
kept-bit height row slot old new e = ap (λ (w : ℕ). bit_at w (slot % 64) == 1) e

module _ (R : Region) (bits : ℕ → ℕ → Bool) (c : Course) (is : IsCourseOf R bits c) where
  abbrev l : Layout
  l = c.layout

  -- ---- a row that came

  module _ (row p : ℕ) (old new : Strings) (size : AreOfLayout l new) (others : AreOthersKept (class_at l.kind p) old new) (before : IsRowAfter c p row old) (came : Row)
      (is_next : bits_of_row came ≡ row_at c row p) (written : AreWordsOf l row (of_class new (class_at l.kind p)) came.words.items) where
    abbrev k : ℕ
    k = class_at l.kind p

    own-came : (slot : ℕ) → bits_of l.height new k row slot ≡ after c (suc p) k row slot
    own-came slot = go (cases_lt slot (64 * l.strips))
      where
        go : (slot < 64 * l.strips) ⊎ (64 * l.strips ≤ slot) → bits_of l.height new k row slot ≡ after c (suc p) k row slot
        go (inl within) =
            let e : p + 1 ≡ suc p = omega arith in
            sym (words-bit l row (of_class new k) came.words.items written slot within)
            ∙ (slots-each came l.strips (after c (p + 1) k row) is_next slot within ∙ ap (λ (n : ℕ). after c n k row slot) e)
        go (inr past) =
            let behind = past-strips l row slot past in
            bits-past l new k row slot size (within-classes l.kind p) behind ∙ sym (after-past R bits c (suc p) k row slot is (within-classes l.kind p) behind)

    pub row-came : IsRowAfter c (suc p) row new
    row-came class slot within = go (cases_Bool (class == k))
      where
        go : ((class == k) ≡ true) ⊎ ((class == k) ≡ false) → bits_of l.height new class row slot ≡ after c (suc p) class row slot
        go (inl e) =
            let same = eqb-true class k e in
            ap (λ (j : ℕ). bits_of l.height new j row slot) same ∙ (own-came slot ∙ ap (λ (j : ℕ). after c (suc p) j row slot) (sym same))
        go (inr e) =
            let other = eqb-false class k e in
            ap (λ (words : List ℕ). string_bit l.height words row slot) (others class (below-3 l.kind class within) other)
            ∙ (before class slot within ∙ sym (after-other_class c p class row slot other))

  -- ---- a row that is to be sent

  pub row-to_send : (row p : ℕ) (strings : Strings) (words : List ℕ) (sent : Row) → sent.words.items ≡ words → length words ≡ l.strips
      → AreWordsOf l row (of_class strings (class_at l.kind p)) words → IsRowAfter c (suc p) row strings → bits_of_row sent ≡ row_at c row p
  row-to_send row p strings words sent is_sent count read now =
      slots-made sent l.strips (after c (p + 1) (class_at l.kind p) row) (ap (λ (ws : List ℕ). length ws) is_sent ∙ count)
      (λ slot within.
      let e : suc p ≡ p + 1 = omega arith in
      ap (λ (ws : List ℕ). slot_bit ws slot) is_sent
      ∙ (words-bit l row (of_class strings (class_at l.kind p)) words read slot within
      ∙ (now (class_at l.kind p) slot (within-classes l.kind p) ∙ ap (λ (n : ℕ). after c n (class_at l.kind p) row slot) e)))

  -- the same as the code knows it, by a layout and a class that are the course's
  pub row-received : (row p class : ℕ) (l' : Layout) (old new : Strings) (came : Row) → l' ≡ l → class ≡ class_at l'.kind p → AreOfLayout l' new → AreOthersKept class old new
      → IsRowAfter c p row old → bits_of_row came ≡ row_at c row p → AreWordsOf l' row (of_class new class) came.words.items → IsRowAfter c (suc p) row new
  row-received row p class l' old new came same e size others before is_next written =
      let k : class ≡ class_at l.kind p = e ∙ ap (λ (m : Layout). class_at m.kind p) same in
      row-came row p old new (subst (λ (m : Layout). AreOfLayout m new) same size) (subst (λ (j : ℕ). AreOthersKept j old new) k others) before came is_next
      (subst (λ (m : Layout). AreWordsOf m row (of_class new (class_at l.kind p)) came.words.items) same
      (subst (λ (j : ℕ). AreWordsOf l' row (of_class new j) came.words.items) k written))

-- the words beside a row are kept in all classes where they are in one, and the others are the old ones
pub all-kept : (kind : Kind) (height row class : ℕ) (old new : Strings) → AreOthersKept class old new
    → AreKeptBeside height row (row + 1) (of_class old class) (of_class new class)
    → (k : ℕ) → k < classes kind → AreKeptBeside height row (row + 1) (of_class old k) (of_class new k)
all-kept kind height row class old new others kept k within = go (cases_Bool (k == class))
  where
    go : ((k == class) ≡ true) ⊎ ((k == class) ≡ false) → AreKeptBeside height row (row + 1) (of_class old k) (of_class new k)
    go (inl e) = subst (λ (j : ℕ). AreKeptBeside height row (row + 1) (of_class old j) (of_class new j)) (sym (eqb-true k class e)) kept
    go (inr e) =
        let same = others k (below-3 kind k within) (eqb-false k class e) in
        record {
          above = λ strip r before inside. ap (λ (words : List ℕ). slice_index words (strip * height + r)) same;
          below = λ strip r behind inside. ap (λ (words : List ℕ). slice_index words (strip * height + r)) same;
        }
