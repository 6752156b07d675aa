use Rattle.std.proofs.Common.{◌-◌, ◌+◌, length, arith}
use Rattle.tl_string_sweep.proofs.Stepped.{triangles-everywhere}
use Rattle.tl_string_sweep.proofs.sweeping.triangle_class.Goals as goal

pub returns-clause-stepped : goal.returns-clause-stepped
returns-clause-stepped c inside =
    let a = c.args in
    triangles-everywhere a.height (length a.strings.now - (a.height + 3)) a.planes.free.now a.strings.now c.step_triangles.new.strings (omega arith) inside
    c.step_triangles.ensures.before c.step_triangles.ensures.behind a.class a.from.now a.to.now a.planes.coins.now a.planes.lows.now c.step_triangles.ensures.stepped
