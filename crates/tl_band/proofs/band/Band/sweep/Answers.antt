use Rattle.std.proofs.Common.{◌≡◌, ℕ, ◌+◌, ◌≤◌, suc, Bool, ap, sym, ◌∙◌, subst, arith}
use Rattle.std.proofs.Math.Logic.{∥∥₁_elim}
use Rattle.std.proofs.Math.Bool.{Bool-set}
use Rattle.tl_bits.specs.Bits.{bit_at}
use Rattle.tl_layout.specs.declared.layout.Layout.{Layout}
use Rattle.tl_layout.specs.declared.piece.Pieces.{Pieces}
use Rattle.tl_layout.specs.Coins.{ArePiecesOf}
use Rattle.tl_packed.specs.OfClasses.{AreOfLayout}
use Rattle.tl_packing.specs.Packing.{HasCoins}
use Rattle.tl_courses.specs.Courses.{class_at, time_at}
use Rattle.tl_band.specs.Bands.{IsBandAt}
use Rattle.tl_band.specs.Edges.{AreLinked, AreOfSize}
use Rattle.tl_band.proofs.Sides.{spare-of}
use Rattle.tl_band.proofs.Swept.{band-swept, kept-same, offered-same, steps-same}
use Rattle.tl_band.proofs.band.Band.sweep.Goals as goal

pub offer-requires-clause-spare : goal.offer-requires-clause-spare
offer-requires-clause-spare g c =
    let course = g.S.Sweeping.course c.args.stretch.now in
    let edge = c.args.self.now.upper in
    subst (λ (l : Layout). AreLinked (λ old new. AreOfSize l.strips old.spare.items) edge.link edge.link) (sym c.layout-layout.ensures)
    (spare-of course edge.own edge.beside c.args.self.now.done edge.link c.requires.at.upper)

pub offer-requires-2-clause-free : goal.offer-requires-2-clause-free
offer-requires-2-clause-free g c = (c.args.self.now.done, c.requires.lower)

pub offer-requires-2-clause-spare : goal.offer-requires-2-clause-spare
offer-requires-2-clause-spare g c =
    let course = g.S.Sweeping.course c.args.stretch.now in
    let edge = c.args.self.now.lower in
    subst (λ (l : Layout). AreLinked (λ old new. AreOfSize l.strips old.spare.items) edge.link edge.link) (sym c.layout-layout.ensures)
    (spare-of course edge.own edge.beside c.args.self.now.done edge.link c.requires.at.lower)

pub returns-clause-at : goal.returns-clause-at
returns-clause-at g c =
    let R = g.S.Sweeping.region c.args.stretch.now in
    let bits = g.S.Sweeping.bits c.args.stretch.now in
    let course = g.S.Sweeping.course c.args.stretch.now in
    let l = course.layout in
    let l' = c.layout-layout.result.now in
    let same = c.layout-layout.ensures in
    let old = c.args.self.now in
    let p = old.done in
    let k = class_at l.kind p in
    let class : c.class_at-class.result ≡ k = c.class_at-class.ensures ∙ ap (λ (m : Layout). class_at m.kind p) same in
    let laid = c.lay_out.new.self in
    let time : laid.laid ≡ time_at l.kind course.from p =
    c.lay_out.ensures.laid ∙ (c.time_at.ensures.time ∙ ((λ i. time_at (same i).kind (c.from.ensures i) p))) in
    let word_bits : bit_at (g.B.Bits.word_at laid.kept.bits) ≡ bits = ap (λ f. bit_at f) c.lay_out.ensures.function ∙ c.requires.bits in
    let pieces : ∥ ArePiecesOf R l laid.pieces ∥₁ = subst (λ (w : Pieces). ∥ ArePiecesOf R l w ∥₁) (sym c.lay_out.ensures.pieces) c.requires.pieces in
    let some : 1 ≤ laid.laid = omega (arith, c.lay_out.ensures.laid, c.time_at.ensures.first) in
    let coins : HasCoins R l.height l.first (bits (time_at l.kind course.from p)) laid.words.items =
    subst (λ (f : ℕ → Bool). HasCoins R l.height l.first f laid.words.items) (λ i. word_bits i (time i)) (λ i v at. ∥∥₁_elim pieces (Bool-set _ _) (λ are. laid.laid_out R l are some i v at)) in
    let strings = c.sweep_rows.new.both in
    let steps = steps-same l l' course.slots c.slots.result.now k c.class_at-class.result old.upper.own old.lower.beside laid.words.items c.deref.result.now old.strings strings
    same c.slots.ensures class c.deref.ensures.value
    (record { others = c.sweep_rows.ensures.others; squares = c.sweep_rows.ensures.squares; triangles = c.sweep_rows.ensures.triangles }) in
    let further : suc p ≡ p + 1 = omega arith in
    subst (λ (n : ℕ). IsBandAt course (record { strings = strings; upper = c.offer.new.self; lower = c.offer-2.new.self; done = n })) further
    (band-swept R bits course c.requires.course old c.requires.at c.requires.left c.requires.upper c.requires.lower strings
    (subst (λ (m : Layout). AreOfLayout m strings) same c.sweep_rows.ensures.size) laid.words.items (λ i v at above below. coins i v at) steps
    (kept-same l l' k c.class_at-class.result old.upper.own old.lower.beside old.strings strings same class c.sweep_rows.ensures.outside)
    c.offer.new.self c.offer-2.new.self c.offer.ensures.own c.offer.ensures.beside c.offer-2.ensures.own c.offer-2.ensures.beside
    (offered-same l l' k c.class_at-class.result old.upper.own strings old.upper.link c.offer.new.self.link same class c.offer.ensures.offered)
    (offered-same l l' k c.class_at-class.result old.lower.own strings old.lower.link c.offer-2.new.self.link same class c.offer-2.ensures.offered))
