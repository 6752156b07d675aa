use Rattle.std.proofs.Common.{◌≡◌, ◌++◌, ◌≤◌, ◌-◌, length, drop}
use Rattle.std.specs.Prelude.{option_map}
use Rattle.tl_text.specs.Given.{all_seen, texts}
use Rattle.tl_text.specs.Words.{settings}
use Rattle.tl_text.proofs.settings.settings_of.Given as goal

abbrev pub invariant-loop-start : goal.invariant-loop-start
invariant-loop-start l = record {
  so_far : option_map (λ ss. all_seen l.all.items ++ ss) (settings (texts (drop l.start l.words))) ≡ settings (texts l.words);
  within : l.start ≤ length l.words;
}

abbrev pub decreases-loop-start : goal.decreases-loop-start
decreases-loop-start l = length l.words - l.start
