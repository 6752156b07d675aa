use Rattle.std.proofs.Common.{◌+◌}
use Rattle.tl_definitions.specs.Region.{corners_before}
use Rattle.tl_grid.specs.Survey.{IsSurveyAmong}
use Rattle.tl_grid.proofs.survey.Survey.of.Given as goal

abbrev pub invariant-loop-r : goal.invariant-loop-r
invariant-loop-r l = IsSurveyAmong l.grid (corners_before (l.grid.columns + 2) l.r 0) l.survey
