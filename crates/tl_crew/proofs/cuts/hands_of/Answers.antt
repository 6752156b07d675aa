use Rattle.std.proofs.Common.{◌-◌, ◌/◌, length, arith, sym, ap, subst, ◌∙◌}
use Rattle.tl_bits.specs.Bits.{bit_at}
use Rattle.tl_crew.specs.Cuts.{AreBandsOf}
use Rattle.tl_crew.specs.Hands.{AreCoinsOf}
use Rattle.tl_crew.proofs.CutRows.{bands-joined, first_row-0, first_row-last, halves-one, halves-two}
use Rattle.tl_crew.proofs.Pairs.{one-all, one-joined, one-length, one-map, one-shares, two-all, two-joined, two-length, two-map, two-shares}
use Rattle.tl_crew.proofs.cuts.hands_of.Goals as goal
use Rattle.tl_crew.proofs.cuts.hands_of.Goals.{then-half-bands+in_ok-lower+in_ok-push-2, else-half-bands}

pub returns-clause-shares : goal.returns-clause-shares
returns-clause-shares g c =
    let top = first_row-0 c.args.cut.now c.count-bands.ensures.is_cut in
    elim c.if-half-bands.branch [
      | then-half-bands+in_ok-lower+in_ok-push-2 w ↦
          let last = first_row-last c.args.region.now c.args.layout.now c.args.cut.now c.count-bands.result c.requires.layout c.requires.rows c.count-bands.ensures.count in
          two-shares c.new-hands.result.items c.push.new.self.items c.in_ok-upper.upper c.new-hands.ensures.items c.in_ok-push.ensures.items c.if-half-bands.hands.items w.in_ok-lower.lower
          (ap (λ v. v.items) w.hands-is ∙ w.in_ok-push-2.ensures.items) (λ hand. hand.share) c.args.layout.now c.in_ok-upper.ensures.share w.in_ok-lower.ensures.share
          (omega (arith, c.in_ok-upper.ensures.first, top)) (omega (arith, w.in_ok-lower.ensures.first, c.in_ok-upper.ensures.end))
          (omega (arith, w.in_ok-lower.ensures.end, last))
      | else-half-bands w ↦
          let last = first_row-last c.args.region.now c.args.layout.now c.args.cut.now (c.count-bands.result - c.count-bands.result / 2) c.requires.layout c.requires.rows
          (omega (arith, w.if-half-bands.false, c.count-bands.ensures.count)) in
          one-shares c.new-hands.result.items c.if-half-bands.hands.items c.in_ok-upper.upper c.new-hands.ensures.items (ap (λ v. v.items) w.hands-is ∙ c.in_ok-push.ensures.items)
          (λ hand. hand.share) c.args.layout.now c.in_ok-upper.ensures.share (omega (arith, c.in_ok-upper.ensures.first, top)) (omega (arith, c.in_ok-upper.ensures.end, last))
    ]

pub returns-clause-coins : goal.returns-clause-coins
returns-clause-coins g c =
    let region = c.args.region.now in
    let l = c.args.layout.now in
    let upper = c.in_ok-upper.ensures.coins in
    elim c.if-half-bands.branch [
      | then-half-bands+in_ok-lower+in_ok-push-2 w ↦
          let lower = w.in_ok-lower.ensures.coins in
          two-all c.new-hands.result.items c.push.new.self.items c.in_ok-upper.upper c.new-hands.ensures.items c.in_ok-push.ensures.items c.if-half-bands.hands.items w.in_ok-lower.lower
          (ap (λ v. v.items) w.hands-is ∙ w.in_ok-push-2.ensures.items)
          (λ hand. AreCoinsOf region l (bit_at (g.B.Bits.word_at c.args.first)) hand.coins.pieces (g.B.Bits.words hand.coins.kept.bits) (g.B.Bits.word_at hand.coins.kept.bits)) upper
          (record { lays_out = lower.lays_out; enough = lower.enough; same_bits = lower.same_bits ∙ ap bit_at c.requires.same })
      | else-half-bands w ↦
          one-all c.new-hands.result.items c.if-half-bands.hands.items c.in_ok-upper.upper c.new-hands.ensures.items (ap (λ v. v.items) w.hands-is ∙ c.in_ok-push.ensures.items)
          (λ hand. AreCoinsOf region l (bit_at (g.B.Bits.word_at c.args.first)) hand.coins.pieces (g.B.Bits.words hand.coins.kept.bits) (g.B.Bits.word_at hand.coins.kept.bits)) upper
    ]

pub returns-clause-count : goal.returns-clause-count
returns-clause-count g c = elim c.if-half-bands.branch [
  | then-half-bands+in_ok-lower+in_ok-push-2 w ↦
      let two = two-length c.new-hands.result.items c.push.new.self.items c.in_ok-upper.upper c.new-hands.ensures.items c.in_ok-push.ensures.items c.if-half-bands.hands.items w.in_ok-lower.lower
      (ap (λ v. v.items) w.hands-is ∙ w.in_ok-push-2.ensures.items) in
      omega (arith, two)
  | else-half-bands w ↦
      let one = one-length c.new-hands.result.items c.if-half-bands.hands.items c.in_ok-upper.upper c.new-hands.ensures.items (ap (λ v. v.items) w.hands-is ∙ c.in_ok-push.ensures.items) in
      omega (arith, one)
]

pub returns-clause-bands : goal.returns-clause-bands
returns-clause-bands g c = elim c.if-half-bands.branch [
  | then-half-bands+in_ok-lower+in_ok-push-2 w ↦
      let both = two-joined c.new-hands.result.items c.push.new.self.items c.in_ok-upper.upper c.new-hands.ensures.items c.in_ok-push.ensures.items c.if-half-bands.hands.items w.in_ok-lower.lower
      (ap (λ v. v.items) w.hands-is ∙ w.in_ok-push-2.ensures.items) (λ hand. hand.share.bands.items) in
      subst (λ bands. AreBandsOf c.args.layout.now c.args.cut.now 0 bands) (sym both)
      (bands-joined c.args.layout.now c.args.cut.now 0 (c.count-bands.result - c.count-bands.result / 2) c.in_ok-upper.upper.share.bands.items w.in_ok-lower.lower.share.bands.items
      c.in_ok-upper.ensures.count c.in_ok-upper.ensures.bands w.in_ok-lower.ensures.bands)
  | else-half-bands w ↦
      let all = one-joined c.new-hands.result.items c.if-half-bands.hands.items c.in_ok-upper.upper c.new-hands.ensures.items (ap (λ v. v.items) w.hands-is ∙ c.in_ok-push.ensures.items)
      (λ hand. hand.share.bands.items) in
      subst (λ bands. AreBandsOf c.args.layout.now c.args.cut.now 0 bands) (sym all) c.in_ok-upper.ensures.bands
]

pub returns-clause-halves : goal.returns-clause-halves
returns-clause-halves g c = elim c.if-half-bands.branch [
  | then-half-bands+in_ok-lower+in_ok-push-2 w ↦
      let both = two-map c.new-hands.result.items c.push.new.self.items c.in_ok-upper.upper c.new-hands.ensures.items c.in_ok-push.ensures.items c.if-half-bands.hands.items w.in_ok-lower.lower
      (ap (λ v. v.items) w.hands-is ∙ w.in_ok-push-2.ensures.items) (λ hand. length hand.share.bands.items) in
      both
      ∙ halves-two (length c.args.cut.now.firsts) c.count-bands.result (length c.in_ok-upper.upper.share.bands.items) (length w.in_ok-lower.lower.share.bands.items) c.count-bands.ensures.count
      w.if-half-bands.true c.in_ok-upper.ensures.count w.in_ok-lower.ensures.count
  | else-half-bands w ↦
      let all = one-map c.new-hands.result.items c.if-half-bands.hands.items c.in_ok-upper.upper c.new-hands.ensures.items (ap (λ v. v.items) w.hands-is ∙ c.in_ok-push.ensures.items)
      (λ hand. length hand.share.bands.items) in
      all
      ∙ halves-one (length c.args.cut.now.firsts) c.count-bands.result (length c.in_ok-upper.upper.share.bands.items) c.count-bands.ensures.count w.if-half-bands.false
      c.in_ok-upper.ensures.count
]
