use Rattle.std.proofs.Common.{◌∙◌, arith}
use Rattle.tl_strings.specs.Words.{square_slot}
use Rattle.tl_row_sweep.proofs.Stepped.{squares-stepped, strip-stepped}
use Rattle.tl_row_sweep.proofs.Strips.{not-yet, strip-made}
use Rattle.tl_row_sweep.proofs.squares.square_rows.Goals as goal

pub loop-strip-preserved : goal.loop-strip-preserved
loop-strip-preserved c =
    let a = c.args in
    let height = a.layout.now.height in
    let strip = c.loop-strip.strip in
    let so_far = c.loop-strip.invariant.swept in
    let step = c.step_squares.ensures in
    record {
      len = step.len ∙ c.loop-strip.invariant.len;
      swept = strip-made _ height a.first a.end 1 strip (omega arith) a.strings.now c.loop-strip.strings c.step_squares.new.strings so_far (omega arith) step.before step.behind
          (strip-stepped (square_slot a.is_odd height a.others.now a.planes.coins.now a.planes.lows.now a.planes.free.now) height a.first a.end strip a.strings.now c.loop-strip.strings c.step_squares.new.strings (omega arith) (omega arith) (omega arith)
          (not-yet _ height a.first a.end 1 strip (omega arith) a.strings.now c.loop-strip.strings c.step_squares.new.strings so_far) step.stepped);
    }

pub returns-clause-stepped : goal.returns-clause-stepped
returns-clause-stepped c inside =
    let a = c.args in
    squares-stepped a.layout.now.height a.layout.now.strips c.loop-strip.strip a.first a.end a.planes.free.now a.strings.now c.loop-strip.strings c.requires.free (omega arith) (omega arith) inside
    a.others.now a.planes.coins.now a.planes.lows.now a.is_odd c.loop-strip.invariant.swept
