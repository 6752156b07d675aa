use Rattle.std.proofs.Common.{◌≡◌, ◌-◌, length}
use Rattle.std.specs.Prelude.{All}
use Rattle.tl_band.specs.Bands.{IsBandAt}
use Rattle.tl_band.specs.Edges.{IsSideAt}
use Rattle.tl_crew.specs.Bands.{AreSharesIn}
use Rattle.tl_crew.specs.Hands.{AreCoinsOf}
use Rattle.tl_crew.proofs.Begun.{HoldBefore, HoldsOf}
use Rattle.tl_crew.proofs.stretches.begin.Given as goal

abbrev pub invariant-loop-j : goal.invariant-loop-j
invariant-loop-j g l = record {
  shares : AreSharesIn (λ hand. hand.share) (g.S.Sweeping.course l.stretch).layout l.hands;
  coins : All (λ hand. AreCoinsOf (g.S.Sweeping.region l.stretch) (g.S.Sweeping.course l.stretch).layout (g.S.Sweeping.bits l.stretch)
      hand.coins.pieces (g.B.Bits.words hand.coins.kept.bits) (g.B.Bits.word_at hand.coins.kept.bits)) l.hands;
  count : length l.hands ≡ length l.fn.hands;
  at : HoldBefore (λ hand. All (IsBandAt (g.S.Sweeping.course l.stretch)) hand.share.bands.items) l.hands l.j;
  upper : HoldsOf (λ hand. IsSideAt (g.S.Sweeping.course l.stretch) hand.share.first (hand.share.first - 1) 0 l.upper) l.hands l.j;
}
