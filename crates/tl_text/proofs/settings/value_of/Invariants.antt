use Rattle.std.proofs.Common.{◌≡◌, drop}
use Rattle.tl_text.specs.Given.{all_seen}
use Rattle.tl_text.specs.Words.{value_of}
use Rattle.tl_text.proofs.settings.value_of.Given as goal

abbrev pub invariant-loop-given : goal.invariant-loop-given
invariant-loop-given l = value_of (all_seen (drop l.given-index l.settings)) l.name ≡ value_of (all_seen l.settings) l.name
