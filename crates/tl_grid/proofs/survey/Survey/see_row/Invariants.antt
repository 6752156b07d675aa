use Rattle.std.proofs.Common.{◌+◌}
use Rattle.tl_definitions.specs.Lattice.{corner}
use Rattle.tl_definitions.specs.Region.{corners_before}
use Rattle.tl_grid.specs.Survey.{IsSurveyAmong}
use Rattle.tl_grid.proofs.PatternLemmas.{IsPatternBefore}
use Rattle.tl_grid.proofs.survey.Survey.see_row.Given as goal

abbrev pub invariant-loop-x : goal.invariant-loop-x
invariant-loop-x l =
    record {
      before : IsPatternBefore l.grid (corner l.r l.x) l.pattern;
      seen : IsSurveyAmong l.grid (corners_before (l.grid.columns + 2) l.r l.x) l.self;
    }
