use Rattle.std.proofs.Common.{◌∙◌, sym}
use Rattle.tl_definitions.specs.Region.{corner_places}
use Rattle.tl_definitions.specs.Accepted.{is_pinch, InOnePart, IsFirstParted}
use Rattle.std.proofs.Common.{subst}
use Rattle.std.specs.Prelude.{MatchOption}
use Rattle.tl_lists.proofs.Searches.{find-none_any}
use Rattle.tl_region.proofs.rules.broken_rule.Goals as goal

pub returns-in-None : goal.returns-in-None
returns-in-None c =
    let R = c.args.grid.now in (
      c.requires.is_grid.nonempty,
      subst (λ o. MatchOption o (InOnePart R) (IsFirstParted R)) c.in-Ok-None.field-0-is c.in-Ok-None.ensures,
      find-none_any (is_pinch R) (corner_places R) (sym c.requires.pinch ∙ c.in-None.is),
      c.requires.broken c.in-None.is,
    )
