use Rattle.std.proofs.Common.{◌≡◌, ◌≤◌, ℕ, List, true, sym, length, arith}
use Rattle.std.specs.Prelude.{nat_le}
use Rattle.std.proofs.lemmas.Bool.{and_parts, leb-true}
use Rattle.tl_formats.specs.Texts.{are_digits}
use Rattle.tl_obstruction.specs.Told.{is_plain}
use Rattle.tl_obstruction.proofs.Words.{few-digits}
use Rattle.tl_obstruction.proofs.numbers.plain.Goals as goal

short : (word : List ℕ) → is_plain word ≡ true → length word ≤ 9
short word e = leb-true _ _ (and_parts (are_digits word) (nat_le (length word) 9) (and_parts _ _ e).0).1

pub overflow_mul-number : goal.overflow_mul-number
overflow_mul-number c =
    let few = few-digits c.loop-byte.number c.loop-byte.byte-index (omega (arith, c.loop-byte-test.true, short c.args.word.now (sym c.if-not-is_plain.ensures))) c.loop-byte.invariant.short in
    omega (arith, few)

pub overflow_add-number : goal.overflow_add-number
overflow_add-number c =
    let few = few-digits c.loop-byte.number c.loop-byte.byte-index (omega (arith, c.loop-byte-test.true, short c.args.word.now (sym c.if-not-is_plain.ensures))) c.loop-byte.invariant.short in
    omega (arith, few, c.from.ensures)
