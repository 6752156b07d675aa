use Rattle.std.proofs.Common.{◌∙◌, sym, arith, below_more}
use Rattle.std.proofs.lemmas.Bool.{and_parts}
use Rattle.std.proofs.lemmas.Option.{slice_get-get_or}
use Rattle.tl_tiling.proofs.LineLemmas.{allowed-at}
use Rattle.tl_tiling.proofs.letters.are_allowed_in_both.Goals as goal

pub loop-c-preserved : goal.loop-c-preserved
loop-c-preserved c = λ e.
    let p = and_parts _ _ e in
    below_more _ _ (c.loop-c.invariant p.0)
    (allowed-at c.args.region.now c.args.r c.loop-c.c c.args.line.now _ _ (c.flags_of-flags.ensures.flags c.loop-c.c (omega (arith, c.loop-c-test.true, c.min-c-end.ensures, c.flags_of-flags.ensures.len)))
    (slice_get-get_or c.args.line.now c.loop-c.c 0 (omega (arith, c.loop-c-test.true, c.min-c-end.ensures))) ∙ sym c.is_allowed-fine.ensures ∙ p.1)
