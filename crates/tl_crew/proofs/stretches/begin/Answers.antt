use Rattle.std.proofs.Common.{rules, ◌≡◌, ℕ, ◌+◌, ◌-◌, ◌<◌, inl, inr, refl, length, get_or, sym, ap, subst, arith, ◌∙◌, None}
use Rattle.std.specs.Prelude.{All}
use Rattle.std.proofs.lemmas.List.{get_or-set_other, get_or_default}
use Rattle.std.proofs.lemmas.List.Elements.{All-set}
use Rattle.std.proofs.Math.ListN.{length-set}
use Rattle.tl_band.specs.Bands.{IsBandAt}
use Rattle.tl_band.specs.Edges.{IsSideAt}
use Rattle.tl_crew.specs.Hands.{AreCoinsOf}
use Rattle.tl_crew.proofs.Beside.{row-bound}
use Rattle.tl_crew.proofs.Begun.{OnOk-weaker, put-at}
use Rattle.tl_crew.proofs.Stacked.{bands-end, shares-put}
use Rattle.tl_crew.proofs.stretches.begin.Goals as goal

pub loop-j-init : goal.loop-j-init
loop-j-init g c =
    let course = g.S.Sweeping.course c.args.stretch.now in
    let shares = c.requires.shares in
    record {
      shares = shares;
      coins = c.requires.coins;
      count = refl;
      at = λ k d before. absurd (omega (arith, before));
      upper = λ d.
          let first = shares.stacked.begins d in
          let one = shares.each 0 d shares.stacked.some in
          let row = shares.stacked.has_row 0 d shares.stacked.some in
          let end = bands-end course.layout (get_or c.args.hands.now 0 d).share.first (get_or c.args.hands.now 0 d).share.end (get_or c.args.hands.now 0 d).share.bands.items one in
          row-bound (g.S.Sweeping.region c.args.stretch.now) (g.S.Sweeping.bits c.args.stretch.now) course c.requires.course
          ((get_or c.args.hands.now 0 d).share.first - 1) (omega (arith, first, row, end)) (inl (omega (arith, first)));
    }

pub begin_above-requires-clause-share : goal.begin_above-requires-clause-share
begin_above-requires-clause-share g c = c.loop-j.invariant.shares.each _ _ (omega (arith, c.loop-j-test.true, c.loop-j.invariant.count))

pub begin_above-requires-clause-end : goal.begin_above-requires-clause-end
begin_above-requires-clause-end g c =
    let row = c.loop-j.invariant.shares.stacked.has_row c.loop-j.j c.index-hands-j.result (omega (arith, c.loop-j-test.true, c.loop-j.invariant.count)) in
    omega (arith, row)

pub begin_above-requires-clause-above : goal.begin_above-requires-clause-above
begin_above-requires-clause-above g c = c.loop-j.invariant.upper _

pub loop-j-preserved : goal.loop-j-preserved
loop-j-preserved g c =
    let course = g.S.Sweeping.course c.args.stretch.now in
    let hands = c.loop-j.hands in
    let j = c.loop-j.j in
    let r = c.index-hands-j.result in
    let new = c.begin_above.new.this in
    let told = c.begin_above.ensures in
    let kept = c.loop-j.invariant in
    let within : j < length hands = omega (arith, c.loop-j-test.true, kept.count) in
    record {
      shares = shares-put (λ hand. hand.share) course.layout hands j new kept.shares within
          (λ d. told.first ∙ ap (λ hand. hand.share.first) (get_or_default hands j r d within))
          (λ d. told.end ∙ ap (λ hand. hand.share.end) (get_or_default hands j r d within)) told.share;
      coins = All-set (λ hand. AreCoinsOf (g.S.Sweeping.region c.args.stretch.now) course.layout (g.S.Sweeping.bits c.args.stretch.now)
          hand.coins.pieces (g.B.Bits.words hand.coins.kept.bits) (g.B.Bits.word_at hand.coins.kept.bits)) hands j new
          (subst (λ coins. AreCoinsOf (g.S.Sweeping.region c.args.stretch.now) course.layout (g.S.Sweeping.bits c.args.stretch.now)
          coins.pieces (g.B.Bits.words coins.kept.bits) (g.B.Bits.word_at coins.kept.bits)) (sym told.coins) (kept.coins j r within)) kept.coins;
      count = length-set hands j new ∙ kept.count;
      at = put-at (λ hand. All (IsBandAt course) hand.share.bands.items) hands j new within c.in_ok-upper.ensures.at kept.at;
      upper = λ d.
          let further : j + 1 < length hands = omega (arith, c.loop-j-test.true, kept.count) in
          let here = get_or-set_other hands j (j + 1) new d (λ e. omega (arith, e)) in
          let own : (get_or hands (j + 1) d).share.first ≡ (get_or hands j r).share.end =
          kept.shares.stacked.next j d further ∙ ap (λ hand. hand.share.end) (get_or_default hands j d r within) in
          subst (λ hand. IsSideAt course hand.share.first (hand.share.first - 1) 0 c.in_ok-upper.upper) (sym here)
          (subst (λ (n : ℕ). IsSideAt course n (n - 1) 0 c.in_ok-upper.upper) (sym own) c.in_ok-upper.ensures.next);
    }

pub offset_bounds-hands-j : goal.offset_bounds-hands-j
offset_bounds-hands-j g c =
    let within : c.loop-j.j < length c.args.hands.now = omega (arith, c.loop-j-test.true) in
    search (rules, within)

pub offset_bounds-hands-last : goal.offset_bounds-hands-last
offset_bounds-hands-last g c =
    let kept = c.loop-j.invariant in
    let within : length c.args.hands.now - 1 < length c.args.hands.now = omega (arith, kept.count, kept.shares.stacked.some) in
    search (rules, within)

pub returns-in_err-upper-clause-shares : goal.returns-in_err-upper-clause-shares
returns-in_err-upper-clause-shares g c =
    let hands = c.loop-j.hands in
    let j = c.loop-j.j in
    let r = c.index-hands-j.result in
    let told = c.begin_above.ensures in
    let kept = c.loop-j.invariant in
    let within : j < length hands = omega (arith, c.loop-j-test.true, kept.count) in
    shares-put (λ hand. hand.share) (g.S.Sweeping.course c.args.stretch.now).layout hands j c.begin_above.new.this kept.shares within
    (λ d. told.first ∙ ap (λ hand. hand.share.first) (get_or_default hands j r d within))
    (λ d. told.end ∙ ap (λ hand. hand.share.end) (get_or_default hands j r d within)) told.share

pub returns-in_err-upper-clause-coins : goal.returns-in_err-upper-clause-coins
returns-in_err-upper-clause-coins g c =
    let course = g.S.Sweeping.course c.args.stretch.now in
    let hands = c.loop-j.hands in
    let j = c.loop-j.j in
    let r = c.index-hands-j.result in
    let kept = c.loop-j.invariant in
    let within : j < length hands = omega (arith, c.loop-j-test.true, kept.count) in
    All-set (λ hand. AreCoinsOf (g.S.Sweeping.region c.args.stretch.now) course.layout (g.S.Sweeping.bits c.args.stretch.now)
    hand.coins.pieces (g.B.Bits.words hand.coins.kept.bits) (g.B.Bits.word_at hand.coins.kept.bits)) hands j c.begin_above.new.this
    (subst (λ coins. AreCoinsOf (g.S.Sweeping.region c.args.stretch.now) course.layout (g.S.Sweeping.bits c.args.stretch.now)
    coins.pieces (g.B.Bits.words coins.kept.bits) (g.B.Bits.word_at coins.kept.bits)) (sym c.begin_above.ensures.coins) (kept.coins j r within)) kept.coins

pub begin_hand-requires-clause-share : goal.begin_hand-requires-clause-share
begin_hand-requires-clause-share g c =
    c.loop-j.invariant.shares.each _ _ (omega (arith, c.loop-j.invariant.count, c.requires.shares.stacked.some))

pub begin_hand-requires-clause-above : goal.begin_hand-requires-clause-above
begin_hand-requires-clause-above g c =
    let course = g.S.Sweeping.course c.args.stretch.now in
    let at : c.loop-j.j ≡ length c.args.hands.now - 1 = omega (arith, c.loop-j-test.false, c.loop-j.auto.j-end) in
    subst (λ (n : ℕ). IsSideAt course (get_or c.loop-j.hands n c.index-hands-last.result).share.first ((get_or c.loop-j.hands n c.index-hands-last.result).share.first - 1) 0 c.loop-j.upper) at
    (c.loop-j.invariant.upper c.index-hands-last.result)

pub begin_hand-requires-clause-below : goal.begin_hand-requires-clause-below
begin_hand-requires-clause-below g c =
    let course = g.S.Sweeping.course c.args.stretch.now in
    let shares = c.loop-j.invariant.shares in
    let hands = c.loop-j.hands in
    let d = c.index-hands-last.result in
    let last : length hands - 1 ≡ length c.args.hands.now - 1 = omega (arith, c.loop-j.invariant.count) in
    let some : 0 < length hands = shares.stacked.some in
    let one = shares.each (length hands - 1) d (omega (arith, some)) in
    let row = shares.stacked.has_row (length hands - 1) d (omega (arith, some)) in
    let end = shares.stacked.ends d in
    subst (λ (n : ℕ). IsSideAt course ((get_or hands n d).share.end - 1) (get_or hands n d).share.end 0 None) last
    (row-bound (g.S.Sweeping.region c.args.stretch.now) (g.S.Sweeping.bits c.args.stretch.now) course c.requires.course
    (get_or hands (length hands - 1) d).share.end (omega (arith, row, end)) (inr (omega (arith, row, end))))

pub returns-clause-at : goal.returns-clause-at
returns-clause-at g c =
    let course = g.S.Sweeping.course c.args.stretch.now in
    let hands = c.loop-j.hands in
    let last = length c.args.hands.now - 1 in
    let kept = c.loop-j.invariant in
    let at : c.loop-j.j ≡ last = omega (arith, c.loop-j-test.false, c.loop-j.auto.j-end) in
    OnOk-weaker c.begin_hand.result (All (IsBandAt course) c.begin_hand.new.this.share.bands.items) _
    (λ now k d within.
    put-at (λ hand. All (IsBandAt course) hand.share.bands.items) hands last c.begin_hand.new.this (omega (arith, kept.count, kept.shares.stacked.some)) now
    (λ i e before. kept.at i e (omega (arith, before, at)))
    k d (omega (arith, within, length-set hands last c.begin_hand.new.this, kept.count))) c.begin_hand.ensures.at

pub returns-clause-shares : goal.returns-clause-shares
returns-clause-shares g c =
    let hands = c.loop-j.hands in
    let last = length c.args.hands.now - 1 in
    let r = c.index-hands-last.result in
    let kept = c.loop-j.invariant in
    let told = c.begin_hand.ensures in
    let within : last < length hands = omega (arith, kept.count, kept.shares.stacked.some) in
    shares-put (λ hand. hand.share) (g.S.Sweeping.course c.args.stretch.now).layout hands last c.begin_hand.new.this kept.shares within
    (λ d. told.first ∙ ap (λ hand. hand.share.first) (get_or_default hands last r d within))
    (λ d. told.end ∙ ap (λ hand. hand.share.end) (get_or_default hands last r d within)) told.share

pub returns-clause-coins : goal.returns-clause-coins
returns-clause-coins g c =
    let course = g.S.Sweeping.course c.args.stretch.now in
    let hands = c.loop-j.hands in
    let last = length c.args.hands.now - 1 in
    let r = c.index-hands-last.result in
    let kept = c.loop-j.invariant in
    let within : last < length hands = omega (arith, kept.count, kept.shares.stacked.some) in
    All-set (λ hand. AreCoinsOf (g.S.Sweeping.region c.args.stretch.now) course.layout (g.S.Sweeping.bits c.args.stretch.now)
    hand.coins.pieces (g.B.Bits.words hand.coins.kept.bits) (g.B.Bits.word_at hand.coins.kept.bits)) hands last c.begin_hand.new.this
    (subst (λ coins. AreCoinsOf (g.S.Sweeping.region c.args.stretch.now) course.layout (g.S.Sweeping.bits c.args.stretch.now)
    coins.pieces (g.B.Bits.words coins.kept.bits) (g.B.Bits.word_at coins.kept.bits)) (sym c.begin_hand.ensures.coins) (kept.coins last r within)) kept.coins
