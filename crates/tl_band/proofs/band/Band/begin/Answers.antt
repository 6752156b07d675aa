use Rattle.std.proofs.Common.{ℕ, ◌+◌, ◌<◌, subst}
use Rattle.tl_definitions.specs.Lattice.{classes}
use Rattle.tl_layout.specs.declared.layout.Layout.{Layout}
use Rattle.tl_packed.specs.declared.strings.Strings.{Strings}
use Rattle.tl_packed.specs.OfClasses.{AreOfLayout, of_class}
use Rattle.tl_row_sweep.specs.Rows.{AreTaken}
use Rattle.tl_band.proofs.Begun.{band-begun}
use Rattle.tl_band.proofs.band.Band.begin.Goals as goal

pub returns-clause-at : goal.returns-clause-at
returns-clause-at g c =
    let course = g.S.Sweeping.course c.args.stretch.now in
    let old = c.args.self.now in
    let strings = c.copy_rows.new.to in
    let taken = subst (λ (l : Layout). (class : ℕ) → class < classes l.kind → AreTaken l.height old.upper.beside (old.lower.beside + 1) (of_class c.start.result.now class) (of_class strings class))
    c.layout.ensures c.copy_rows.ensures.taken in
    let started = subst (λ (s : Strings). (class : ℕ) → class < classes course.layout.kind → AreTaken course.layout.height old.upper.beside (old.lower.beside + 1) (of_class s class) (of_class strings class))
    c.start.ensures taken in
    band-begun course old c.requires.placed strings (subst (λ (l : Layout). AreOfLayout l strings) c.layout.ensures c.copy_rows.ensures.size) started
    c.args.upper c.args.lower c.requires.upper c.requires.lower
