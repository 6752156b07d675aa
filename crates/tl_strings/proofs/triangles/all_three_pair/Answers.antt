use Rattle.std.proofs.Common.{arith}
use Rattle.tl_strings.proofs.Lanes.{lane-fits, lane-three_plain, lane-three_turned}
use Rattle.tl_strings.proofs.triangles.all_three_pair.Goals as goal
use Rattle.tl_strings.proofs.triangles.all_three_pair.Goals.{then-is_turned, else-is_turned}

pub returns : goal.returns
returns c lane place below within =
    let a = c.args in
    let same = c.if-is_turned.same in
    let fits = lane-fits a.here lane c.fits-here below in
    elim c.if-is_turned.branch [
      | then-is_turned w ↦ lane-three_turned a.is_turned a.here same a.first a.second a.third lane place w.if-is_turned.true w.same-is
          (omega arith) (omega arith) (omega arith) (omega arith) (omega arith) below fits within
      | else-is_turned w ↦ lane-three_plain a.is_turned a.here same a.first a.second a.third lane place w.if-is_turned.false w.same-is
          (omega arith) (omega arith) (omega arith) (omega arith) below
    ]
