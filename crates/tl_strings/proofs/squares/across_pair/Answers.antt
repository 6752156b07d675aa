use Rattle.std.proofs.Common.{ℕ, ap, ◌∙◌, get_or, List, arith}
use Rattle.tl_strings.specs.Words.{bit}
use Rattle.tl_strings.proofs.Lanes.{lane-across_even, lane-across_odd, lane-fits}
use Rattle.tl_strings.proofs.squares.across_pair.Goals as goal
use Rattle.tl_strings.proofs.squares.across_pair.Goals.{then-is_odd, else-is_odd}

pub returns : goal.returns
returns c lane place below within =
    let a = c.args in
    let fits = lane-fits a.here lane c.fits-here below in
    elim c.if-is_odd.branch [
      | then-is_odd w ↦ ap (λ (ws : List ℕ). bit (get_or ws lane 0) place) w.result-is
          ∙ lane-across_odd a.is_odd a.here a.west a.east lane place w.if-is_odd.true (omega arith) (omega arith) (omega arith) below fits (lane-fits a.east lane c.fits-east below) within
      | else-is_odd w ↦ ap (λ (ws : List ℕ). bit (get_or ws lane 0) place) w.result-is
          ∙ lane-across_even a.is_odd a.here a.west a.east lane place w.if-is_odd.false (omega arith) (omega arith) (omega arith) below fits (lane-fits a.west lane c.fits-west below) within
    ]
