use Rattle.std.proofs.Common.{◌∙◌, sym, arith}
use Rattle.tl_text.proofs.NumberLemmas.{within-parsed, within-refused}
use Rattle.tl_text.proofs.values.number_within.Goals as goal

pub returns-in-Ok-clause-number : goal.returns-in-Ok-clause-number
returns-in-Ok-clause-number c =
    c.bounded.ensures.number
    ∙ within-parsed c.args.low c.args.high c.args.word.now c.parse.result c.if-word-gt-MOST_DIGITS.false (rw (← c.as_bytes.ensures.value) (sym c.are_digits.ensures ∙ c.if-not-are_digits.false)) c.parse.ensures.value.0 c.in-Ok.number c.in-Ok.is

pub returns-in-Err-clause-number : goal.returns-in-Err-clause-number
returns-in-Err-clause-number c =
    within-refused c.args.low c.args.high c.args.word.now c.parse.result c.if-word-gt-MOST_DIGITS.false (rw (← c.as_bytes.ensures.value) (sym c.are_digits.ensures ∙ c.if-not-are_digits.false)) c.parse.ensures.value.0 _ c.in-Err.is (omega (arith, c.ranges.high.fits))
