use Rattle.std.proofs.Common.{◌+◌, refl, sym, ◌∙◌, subst}
use Rattle.std.specs.Prelude.{All}
use Rattle.tl_border.specs.declared.row.Side.TheVariants.{Lower, Upper}
use Rattle.tl_border.specs.Ends.{IsOfLength}
use Rattle.tl_layout.specs.declared.layout.Layout.{Layout}
use Rattle.tl_band.specs.Edges.{AreOfSize}
use Rattle.tl_band.specs.Handed.{job_of}
use Rattle.tl_band.proofs.Opened.{fresh-link, sizes}
use Rattle.tl_band.proofs.borders.open.Goals as goal

pub returns-clause-above : goal.returns-clause-above
returns-clause-above g c =
    let course = g.S.Sweeping.course c.args.stretch.now in
    let row = c.args.row in
    let strips = course.layout.strips in
    let lengths = subst (λ (l : Layout). All (IsOfLength l.strips) c.in_ok-upper.field-0.rows.items) c.layout.ensures (c.in_ok-upper.ensures).lengths in
    let all = sizes strips c.in_ok-upper.field-0.rows.items lengths in
    fresh-link course row (row + 1) (job_of course row) Upper c.link.result (c.link.ensures.end ∙ (c.in_ok-upper.ensures).ends.0) refl refl c.link.ensures.unsent c.link.ensures.received
    (subst (λ spare. AreOfSize strips spare.items) (sym c.link.ensures.spare) ((c.in_ok-above.ensures).taken strips all))

pub returns-clause-below : goal.returns-clause-below
returns-clause-below g c =
    let course = g.S.Sweeping.course c.args.stretch.now in
    let row = c.args.row in
    let strips = course.layout.strips in
    let lengths = subst (λ (l : Layout). All (IsOfLength l.strips) c.in_ok-upper.field-0.rows.items) c.layout.ensures (c.in_ok-upper.ensures).lengths in
    let all = sizes strips c.in_ok-upper.field-0.rows.items lengths in
    fresh-link course (row + 1) row (job_of course row) Lower c.link-2.result (c.link-2.ensures.end ∙ (c.in_ok-upper.ensures).ends.1) refl refl c.link-2.ensures.unsent c.link-2.ensures.received
    (subst (λ spare. AreOfSize strips spare.items) (sym c.link-2.ensures.spare) ((c.in_ok-below.ensures).taken strips (c.take_spare.ensures.left strips all)))
