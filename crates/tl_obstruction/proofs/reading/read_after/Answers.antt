use Rattle.std.proofs.Common.{◌≡◌, ℕ, ℤ, List, Option, Some, None, ◌∙◌, ap}
use Rattle.std.specs.Prelude.{IfSome}
use Rattle.tl_formats.specs.ObstructionText.{gap_head, first_bad_after}
use Rattle.tl_lines.specs.Lines.{section_at}
use Rattle.tl_obstruction.specs.Lines.{head_by, line_by}
use Rattle.tl_obstruction.specs.declared.reading.Head.{Head}
use Rattle.tl_obstruction.proofs.reading.read_after.Goals as goal

pub returns-in-Ok-clause-good : goal.returns-in-Ok-clause-good
returns-in-Ok-clause-good c = ap (λ (h : Head). first_bad_after (head_by h) (section_at c.args.text.now).lines) c.in-Gap.is ∙ c.in-Ok.ensures.good c.in-Gap.rise

bad_of : (o : Option ℕ) (lines : List (List ℕ)) (head : Head) (rise : ℤ) (steps : ℕ) → head_by head ≡ gap_head rise steps
    → IfSome o (λ i. (rise : ℤ) → first_bad_after (gap_head rise steps) lines ≡ Some i) → IfSome o (λ i. first_bad_after (head_by head) lines ≡ Some i)
bad_of None lines head rise steps e h = h
bad_of (Some i) lines head rise steps e h = ap (λ a. first_bad_after a lines) e ∙ h rise

pub returns-in-Err-clause-bad : goal.returns-in-Err-clause-bad
returns-in-Err-clause-bad c =
    bad_of (line_by c.in-Err.fault) (section_at c.args.text.now).lines c.args.head c.in-Gap.rise c.in-Gap.steps (ap head_by c.in-Gap.is) c.in-Err.ensures.bad
