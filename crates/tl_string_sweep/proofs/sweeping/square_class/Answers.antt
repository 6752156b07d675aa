use Rattle.std.proofs.Common.{◌-◌, ◌+◌, length, arith}
use Rattle.tl_string_sweep.proofs.Stepped.{squares-everywhere}
use Rattle.tl_string_sweep.proofs.sweeping.square_class.Goals as goal

pub returns-clause-stepped : goal.returns-clause-stepped
returns-clause-stepped c inside =
    let a = c.args in
    squares-everywhere a.height (length a.strings.now - (a.height + 3)) a.planes.free.now a.strings.now c.step_squares.new.strings (omega arith) inside
    c.step_squares.ensures.before c.step_squares.ensures.behind a.others.now a.planes.coins.now a.planes.lows.now a.is_odd c.step_squares.ensures.stepped
