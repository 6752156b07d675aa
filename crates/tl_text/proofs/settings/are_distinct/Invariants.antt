use Rattle.std.proofs.Common.{◌≡◌, drop}
use Rattle.std.specs.Str.{bytes_eq}
use Rattle.tl_lists.specs.Lists.{distinct}
use Rattle.tl_text.specs.Given.{all_seen}
use Rattle.tl_text.specs.Words.{Setting}
use Rattle.tl_text.proofs.settings.are_distinct.Given as goal

abbrev pub invariant-loop-i : goal.invariant-loop-i
invariant-loop-i l =
    distinct (λ (s t : Setting). bytes_eq s.name t.name) (all_seen (drop l.i l.settings)) ≡ distinct (λ (s t : Setting). bytes_eq s.name t.name) (all_seen l.settings)
