use Rattle.std.proofs.Common.{◌∙◌, subst}
use Rattle.std.specs.Option.{option_copied}
use Rattle.tl_lines.specs.Lines.{IsNextLine, section_at}
use Rattle.tl_obstruction.proofs.Paths.{gap-bad, read-whole, read-missing, read-too_many, read-no_corner}
use Rattle.tl_obstruction.proofs.reading.read_path.Goals as goal

pub returns-then-count-steps-clause-good : goal.returns-then-count-steps-clause-good
returns-then-count-steps-clause-good c =
    let rest = c.loop-line.rest.now in
    let after = c.next_line.result.1.now in
    let next = subst (λ o. IsNextLine rest (option_copied o) after) c.in_default.is c.next_line.ensures.next in
    λ rise. gap-bad rise c.args.steps (section_at c.args.text.now).lines
    ∙ read-whole c.args.steps c.loop-line.count (section_at c.args.text.now) (section_at rest) c.loop-line.path.items c.loop-line.invariant.read after next c.if-count-steps.true

pub returns-in_default-clause-bad : goal.returns-in_default-clause-bad
returns-in_default-clause-bad c =
    let rest = c.loop-line.rest.now in
    let after = c.next_line.result.1.now in
    let next = subst (λ o. IsNextLine rest (option_copied o) after) c.in_default.is c.next_line.ensures.next in
    λ rise. gap-bad rise c.args.steps (section_at c.args.text.now).lines
    ∙ read-missing c.args.steps c.loop-line.count (section_at c.args.text.now) (section_at rest) c.loop-line.path.items c.loop-line.invariant.read after next c.if-count-steps.false

pub returns-then-count-steps-2-clause-bad : goal.returns-then-count-steps-2-clause-bad
returns-then-count-steps-2-clause-bad c =
    let rest = c.loop-line.rest.now in
    let after = c.next_line.result.1.now in
    let next = subst (λ o. IsNextLine rest (option_copied o) after) c.in-Some.is c.next_line.ensures.next in
    λ rise. gap-bad rise c.args.steps (section_at c.args.text.now).lines
    ∙ read-too_many c.args.steps c.loop-line.count (section_at c.args.text.now) (section_at rest) c.loop-line.path.items c.loop-line.invariant.read c.in-Some.line.now (section_at after) next c.if-count-steps-2.true

pub returns-in_default-read_corner-clause-bad : goal.returns-in_default-read_corner-clause-bad
returns-in_default-read_corner-clause-bad c =
    let rest = c.loop-line.rest.now in
    let after = c.next_line.result.1.now in
    let next = subst (λ o. IsNextLine rest (option_copied o) after) c.in-Some.is c.next_line.ensures.next in
    λ rise. gap-bad rise c.args.steps (section_at c.args.text.now).lines
    ∙ read-no_corner c.args.steps c.loop-line.count (section_at c.args.text.now) (section_at rest) c.loop-line.path.items c.loop-line.invariant.read c.in-Some.line.now (section_at after) next c.in_default-read_corner.ensures
