use Rattle.std.proofs.Common.{◌≡◌, ℕ, ◌+◌, suc, List, length, ap, sym, ◌∙◌, subst, arith}
use Rattle.tl_border.proofs.Bits.{slots-length}
use Rattle.tl_border.specs.Ends.{EndView, IsReceivedBy}
use Rattle.tl_layout.specs.declared.layout.Layout.{Layout}
use Rattle.tl_packed.specs.OfClasses.{of_class}
use Rattle.tl_row_sweep.specs.Rows.{AreKeptBeside}
use Rattle.tl_courses.specs.Courses.{after, class_at}
use Rattle.tl_band.specs.Edges.{IsRowAfter}
use Rattle.tl_band.specs.Words.{AreWordsOf}
use Rattle.tl_band.proofs.Received.{link-received, next-entry}
use Rattle.tl_band.proofs.Rows.{all-kept, row-received}
use Rattle.tl_band.proofs.edge.Link.receive.Goals as goal

pub write_row-requires-clause-words : goal.write_row-requires-clause-words
write_row-requires-clause-words g c =
    let course = g.S.Sweeping.course c.args.stretch.now in
    let r = c.args.self.now.received in
    let is_next = next-entry course c.args.beside r c.args.self.now.end c.in-Some.row c.requires.gets c.requires.counted (c.in-Some.ensures).1 in
    ap (λ (ws : List ℕ). length ws) c.deref.ensures.value
    ∙ (slots-length c.in-Some.row course.layout.strips (after course (r + 1) (class_at course.layout.kind r) c.args.beside) is_next
    ∙ ap (λ (l : Layout). l.strips) (sym c.layout-layout.ensures))

pub returns-in-Some-clause-link : goal.returns-in-Some-clause-link
returns-in-Some-clause-link g c own at =
    let course = g.S.Sweeping.course c.args.stretch.now in
    let r = c.args.self.now.received in
    let is_next = next-entry course c.args.beside r c.args.self.now.end c.in-Some.row c.requires.gets c.requires.counted (c.in-Some.ensures).1 in
    link-received course own c.args.beside c.args.done c.args.self.now c.put_by.new.self c.in-Some.row
    (subst (λ (e : EndView). IsReceivedBy c.args.self.now.end c.in-Some.row e) (sym c.put_by.ensures.end) c.in-Some.ensures)
    c.put_by.ensures.unsent c.put_by.ensures.received (omega arith)
    (λ spare.
    c.put_by.ensures.spare course.layout.strips spare
    (slots-length c.in-Some.row course.layout.strips (after course (r + 1) (class_at course.layout.kind r) c.args.beside) is_next)) at

pub returns-in-Some-clause-outside : goal.returns-in-Some-clause-outside
returns-in-Some-clause-outside g c class within =
    let course = g.S.Sweeping.course c.args.stretch.now in
    let old = c.args.strings.now in
    let new = c.write_row.new.strings in
    subst (λ (l : Layout). AreKeptBeside l.height c.args.beside (c.args.beside + 1) (of_class old class) (of_class new class)) c.layout-layout.ensures
    (all-kept course.layout.kind c.layout-layout.result.now.height c.args.beside c.class_at-class.result old new c.write_row.ensures.others c.write_row.ensures.outside class within)

pub returns-in-Some-clause-row : goal.returns-in-Some-clause-row
returns-in-Some-clause-row g c =
    let course = g.S.Sweeping.course c.args.stretch.now in
    let r = c.args.self.now.received in
    let l = c.layout-layout.result.now in
    let new = c.write_row.new.strings in
    let is_next = next-entry course c.args.beside r c.args.self.now.end c.in-Some.row c.requires.gets c.requires.counted (c.in-Some.ensures).1 in
    let written : AreWordsOf l c.args.beside (of_class new c.class_at-class.result) c.in-Some.row.words.items =
    subst (λ (ws : List ℕ). AreWordsOf l c.args.beside (of_class new c.class_at-class.result) ws) c.deref.ensures.value c.write_row.ensures.written in
    let further : suc r ≡ c.put_by.new.self.received = omega (arith, c.put_by.ensures.received) in
    subst (λ (n : ℕ). IsRowAfter course n c.args.beside new) further
    (row-received (g.S.Sweeping.region c.args.stretch.now) (g.S.Sweeping.bits c.args.stretch.now) course c.requires.course c.args.beside r c.class_at-class.result l c.args.strings.now new c.in-Some.row
    c.layout-layout.ensures c.class_at-class.ensures c.write_row.ensures.size c.write_row.ensures.others c.requires.row is_next written)
