-- The words of all classes, parted class by class.
use Rattle.std.proofs.Common.{◌≡◌, ℕ, ◌+◌, ◌<◌, cond, List, length, sym, ◌∙◌, ap, arith}
use Rattle.std.specs.Vec.{with_items}
use Rattle.std.proofs.lemmas.List.{with_items_is}
use Rattle.tl_strings.specs.Strings.{string_bit, word_place}
use Rattle.tl_layout.specs.declared.layout.Layout.{Layout}
use Rattle.tl_layout.specs.Layouts.{size_of}
use Rattle.tl_packed.specs.declared.strings.Strings.{Strings}
use Rattle.tl_packed.specs.OfClasses.{AreOfLayout, of_class}
use Rattle.tl_packed.specs.Ends.{AreParted}
use Rattle.tl_packed.proofs.EndsClasses.{by-class, third-size}

-- the words of one class, with the slot of `both` that stands for each
abbrev IsParted : ℕ → ℕ → (ℕ → ℕ) → List ℕ → List ℕ → List ℕ → List ℕ → Type 0
IsParted height size slot_in both lows old new = (row slot : ℕ) → word_place height row slot < size
    → string_bit height new row slot ≡ cond (string_bit height lows row slot) (string_bit height both row (slot_in slot)) (string_bit height old row slot)

module _ (l : Layout) (shift : ℕ) (slot_in : ℕ → ℕ) (both lows like old : Strings) (first second third : List ℕ) where
  pub parted-strings : ((slot : ℕ) → slot_in slot ≡ slot + shift) → AreOfLayout l like → AreOfLayout l old
      → length first ≡ length old.first.items → length second ≡ length old.second.items → length third ≡ length old.third.items
      → IsParted l.height (length like.first.items) slot_in both.first.items lows.first.items old.first.items first
      → IsParted l.height (length like.second.items) slot_in both.second.items lows.second.items old.second.items second
      → IsParted l.height (length like.third.items) slot_in both.third.items lows.third.items old.third.items third
      → AreParted l shift both lows old (record { first = with_items old.first first; second = with_items old.second second; third = with_items old.third third })
  parted-strings shifted like_size old_size a b c first_parted second_parted third_parted = record {
    size = record {
      first = ap length first_is ∙ a ∙ old_size.first;
      second = ap length second_is ∙ b ∙ old_size.second;
      third = ap length third_is ∙ c ∙ old_size.third;
    };
    bits = λ class row slot few. by-class l.kind
        (λ (class : ℕ). word_place l.height row slot < size_of l
        → string_bit l.height (of_class new class) row slot
        ≡ cond (string_bit l.height (of_class lows class) row slot) (string_bit l.height (of_class both class) row (slot + shift)) (string_bit l.height (of_class old class) row slot))
        (one like.first.items both.first.items lows.first.items old.first.items first new.first.items row slot first_is like_size.first first_parted)
        (one like.second.items both.second.items lows.second.items old.second.items second new.second.items row slot second_is like_size.second second_parted)
        (λ three. one like.third.items both.third.items lows.third.items old.third.items third new.third.items row slot third_is (third-size l like like_size three) third_parted)
        class few;
  }
    where
      new : Strings
      new = record { first = with_items old.first first; second = with_items old.second second; third = with_items old.third third }

      first_is : new.first.items ≡ first
      first_is = with_items_is old.first first (a ∙ sym old.first.ok.0)

      second_is : new.second.items ≡ second
      second_is = with_items_is old.second second (b ∙ sym old.second.ok.0)

      third_is : new.third.items ≡ third
      third_is = with_items_is old.third third (c ∙ sym old.third.ok.0)

      one : (like both lows old written new : List ℕ) (row slot : ℕ) → new ≡ written → length like ≡ size_of l → IsParted l.height (length like) slot_in both lows old written
          → word_place l.height row slot < size_of l
          → string_bit l.height new row slot ≡ cond (string_bit l.height lows row slot) (string_bit l.height both row (slot + shift)) (string_bit l.height old row slot)
      one like both lows old written new row slot is size parted inside =
          ap (λ (words : List ℕ). string_bit l.height words row slot) is ∙ parted row slot (omega (arith, size, inside))
          ∙ ap (λ (s : ℕ). cond (string_bit l.height lows row slot) (string_bit l.height both row s) (string_bit l.height old row slot)) (shifted slot)
