use Rattle.std.proofs.Common.{◌≡◌, ◌+◌, ◌*◌, ◌<◌, length, get_or, set, subst, ◌∙◌, arith}
use Rattle.std.proofs.lemmas.List.{get_or-set_other, get_or-set_same}
use Rattle.std.proofs.lemmas.Nat.{mul-add-lt}
use Rattle.std.proofs.Math.ListN.{length-set}
use Rattle.tl_row_sweep.proofs.Strips.{strip-made}
use Rattle.tl_row_sweep.proofs.rows.copy_words.Goals as goal

pub loop-strip-preserved : goal.loop-strip-preserved
loop-strip-preserved c =
    let a = c.args in
    let height = a.layout.now.height in
    let strip = c.loop-strip.strip in
    let at = strip * height + a.row in
    let to = c.loop-strip.to in
    let word = get_or a.from.now at 0 in
    let within : at < length to =
    omega (arith, mul-add-lt strip height a.row a.layout.now.strips c.loop-strip-test.true c.requires.row, c.loop-strip.invariant.len, c.requires.to) in
    record {
      len = length-set to at word ∙ c.loop-strip.invariant.len;
      taken = strip-made _ height a.row (a.row + 1) 0 strip (omega arith) a.to.now to (set to at word) c.loop-strip.invariant.taken (omega arith)
          (λ k h. get_or-set_other to at k word 0 (λ same. omega (arith, same, h)))
          (λ k h. get_or-set_other to at k word 0 (λ same. omega (arith, same, h)))
          (λ row above below. subst (λ r. get_or (set to at word) (strip * height + r) 0 ≡ get_or a.from.now (strip * height + r) 0) (omega (arith, above, below)) (get_or-set_same to at word 0 within));
    }
