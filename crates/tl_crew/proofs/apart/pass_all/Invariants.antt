use Rattle.std.proofs.Common.{◌≡◌, length}
use Rattle.std.specs.Prelude.{All}
use Rattle.tl_crew.specs.Bands.{AreSharesIn}
use Rattle.tl_crew.specs.Hands.{IsHandAt}
use Rattle.tl_crew.proofs.apart.pass_all.Given as goal

abbrev pub invariant-loop-j : goal.invariant-loop-j
invariant-loop-j g l = record {
  at : All (λ hand. IsHandAt (g.S.Sweeping.region l.stretch) (g.S.Sweeping.bits l.stretch) (g.S.Sweeping.course l.stretch)
      hand.coins.pieces (g.B.Bits.words hand.coins.kept.bits) (g.B.Bits.word_at hand.coins.kept.bits) hand.share.bands.items) l.hands;
  shares : AreSharesIn (λ hand. hand.share) (g.S.Sweeping.course l.stretch).layout l.hands;
  count : length l.hands ≡ length l.fn.hands;
}
