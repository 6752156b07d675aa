use Rattle.std.proofs.Common.{rules, w32, ◌≡◌, ◌+◌, ◌%◌, ℕ, ◌&&◌, ◌||◌, List, length, get_or, sym, ◌∙◌, ap, subst, pos}
use mir.Val.{to_z, of_z}
use Rattle.std.specs.Int.{bit_at}
use Rattle.std.specs.Prelude.{◌==◌}
use Rattle.tl_definitions.specs.declared.Corner.{Corner}
use Rattle.tl_strings.specs.Strings.{row_of, slot_of, word_place}
use Rattle.tl_pack.specs.Packs.{ArePacked, is_set_at, is_set_by}
use Rattle.tl_pack.proofs.Packed.{kept-packed, more-packed, none-packed, row-tall}
use Rattle.tl_pack.proofs.packing.mark_all.Goals as goal
use Rattle.tl_pack.proofs.packing.mark_all.Goals.{then-is_set, else-is_set}

pub loop-place-init : goal.loop-place-init
loop-place-init c = none-packed c.args.layout.now c.args.class c.args.numbers.now c.args.words.now c.requires.size c.requires.none

pub loop-place-preserved : goal.loop-place-preserved
loop-place-preserved c =
    let l = c.args.layout.now in
    let class = c.args.class in
    let numbers = c.args.numbers.now in
    let i = c.loop-place.place in
    let z = get_or numbers i (pos 0) in
    let corner = c.corner_at-corner.ensures.corner in
    let same : to_z w32 (of_z w32 z) ≡ z = search rules in
    let told : is_set_at l class numbers i ≡ c.is_set.result = (λ j. is_set_by l class (sym corner j) (sym same j)) ∙ sym c.is_set.ensures in
    elim c.if-is_set.branch [
      | then-is_set w ↦
          let word = w.word.ensures ∙ ap (λ (v : Corner). word_place l.height (row_of v) (slot_of l.kind l.first v)) corner in
          let bit = ap (λ (n : ℕ). n % 64) (w.slot-bit.ensures ∙ ap (slot_of l.kind l.first) corner) in
          subst (λ (words : List ℕ). ArePacked l class numbers (i + 1) words) (sym w.words-is)
          (more-packed l class numbers i c.loop-place.words c.loop-place.invariant w.set_bit.new.words w.set_bit.ensures.size (told ∙ w.if-is_set.true)
          (row-tall i l.width l.height (length numbers) c.loop-place-test.true c.requires.rows)
          (λ n x. w.set_bit.ensures.bits n x
          ∙ (λ j. (bit_at (get_or c.loop-place.words n 0) x == 1) || (word j == n && bit j == x))))
      | else-is_set w ↦
          subst (λ (words : List ℕ). ArePacked l class numbers (i + 1) words) (sym w.words-is)
          (kept-packed l class numbers i c.loop-place.words c.loop-place.invariant (told ∙ w.if-is_set.false))
    ]
