use Rattle.std.proofs.Common.{◌≡◌, length}
use Rattle.std.specs.Prelude.{All}
use Rattle.tl_crew.specs.Hands.{numbering}
use Rattle.tl_crew.proofs.Begun.{HoldBefore}
use Rattle.tl_crew.proofs.Alike.{AreAlike}
use Rattle.tl_crew.proofs.dealt.deal.Given as goal

abbrev pub invariant-loop-j : goal.invariant-loop-j
invariant-loop-j l = record {
  words : All (λ hand. hand.coins.kept.bits.words ≡ l.words) l.hands;
  bits : HoldBefore (λ hand. hand.coins.kept.bits ≡ numbering l.seed l.sample l.words) l.hands l.j;
  pieces : AreAlike (λ hand. hand.coins.pieces) l.fn.hands l.hands;
  share : AreAlike (λ hand. hand.share) l.fn.hands l.hands;
  count : length l.hands ≡ length l.fn.hands;
}
