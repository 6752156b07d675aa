use Rattle.std.proofs.Common.{◌≡◌, ◌+◌, ◌*◌, ◌<◌, length, get_or, set, sym, subst, ◌∙◌, arith}
use Rattle.std.proofs.lemmas.List.{get_or-set_other, get_or-set_same}
use Rattle.std.proofs.lemmas.Nat.{mul-add-lt}
use Rattle.std.proofs.Math.ListN.{length-set}
use Rattle.tl_row_sweep.proofs.Strips.{kept-beside, strip-made}
use Rattle.tl_band.proofs.words.write_words.Goals as goal

pub loop-strip-preserved : goal.loop-strip-preserved
loop-strip-preserved c =
    let a = c.args in
    let height = a.layout.now.height in
    let strip = c.loop-strip.strip in
    let at = strip * height + a.row in
    let string = c.loop-strip.string in
    let word = get_or a.words.now strip 0 in
    let within : at < length string =
    omega (arith, mul-add-lt strip height a.row a.layout.now.strips c.loop-strip-test.true c.requires.row, c.loop-strip.invariant.len, c.requires.string) in
    record {
      len = length-set string at word ∙ c.loop-strip.invariant.len;
      written = strip-made _ height a.row (a.row + 1) 0 strip (omega (arith, c.requires.row)) a.string.now string (set string at word) c.loop-strip.invariant.written (omega arith)
          (λ k h. get_or-set_other string at k word 0 (λ same. omega (arith, same, h)))
          (λ k h. get_or-set_other string at k word 0 (λ same. omega (arith, same, h)))
          (λ row above below. subst (λ r. get_or (set string at word) (strip * height + r) 0 ≡ word) (omega (arith, above, below)) (get_or-set_same string at word 0 within));
    }

pub returns-clause-outside : goal.returns-clause-outside
returns-clause-outside c = kept-beside _ _ _ _ _ _ _ _ c.loop-strip.invariant.written

pub returns-clause-written : goal.returns-clause-written
returns-clause-written c strip within = sym (c.loop-strip.invariant.written.made strip c.args.row (omega arith) (omega (arith, within)) (omega arith) (omega arith))
