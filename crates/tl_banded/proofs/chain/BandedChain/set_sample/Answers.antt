use Rattle.std.proofs.Common.{rules, ◌≡◌, ◌≤◌, ℕ, ◌++◌, drop, length, take, sym, subst}
use Rattle.std.proofs.Math.Seq.{take-append_seam}
use Rattle.std.specs.Prelude.{All}
use Rattle.tl_bits.specs.Bits.{bit_at}
use Rattle.tl_bits.specs.Sources.{Numbering, numbered_word}
use Rattle.tl_crew.specs.Bands.{AreSharesIn}
use Rattle.tl_crew.specs.Hands.{AreCoinsOf}
use Rattle.tl_banded.proofs.chain.BandedChain.set_sample.Goals as goal

pub invariant_of-self-clause-few_hands : goal.invariant_of-self-clause-few_hands
invariant_of-self-clause-few_hands g c =
    let chain = c.args.self.now in
    let new = c.deal.new.hands in
    let rest = drop (length new) chain.hands.items in
    let len : chain.hands.len ≡ length new = search rules in
    let kept : take chain.hands.len (new ++ rest) ≡ new = subst (λ (n : ℕ). take n (new ++ rest) ≡ new) (sym len) (take-append_seam new rest) in
    let few : length new ≤ 64 = search (rules, chain.few_hands, len) in
    subst (λ hands. length hands ≤ 64) (sym kept) few

pub invariant_of-self-clause-shares : goal.invariant_of-self-clause-shares
invariant_of-self-clause-shares g c =
    let chain = c.args.self.now in
    let new = c.deal.new.hands in
    let rest = drop (length new) chain.hands.items in
    let len : chain.hands.len ≡ length new = search rules in
    let kept : take chain.hands.len (new ++ rest) ≡ new = subst (λ (n : ℕ). take n (new ++ rest) ≡ new) (sym len) (take-append_seam new rest) in
    subst (λ hands. AreSharesIn (λ hand. hand.share) chain.ground.layout hands) (sym kept)
    (c.deal.ensures.shares chain.ground.layout (subst (λ hands. AreSharesIn (λ hand. hand.share) chain.ground.layout hands) (sym c.deref_mut.ensures.value) chain.shares))

pub invariant_of-self-clause-coins : goal.invariant_of-self-clause-coins
invariant_of-self-clause-coins g c =
    let chain = c.args.self.now in
    let new = c.deal.new.hands in
    let rest = drop (length new) chain.hands.items in
    let len : chain.hands.len ≡ length new = search rules in
    let kept : take chain.hands.len (new ++ rest) ≡ new = subst (λ (n : ℕ). take n (new ++ rest) ≡ new) (sym len) (take-append_seam new rest) in
    subst (λ hands. All (λ hand. AreCoinsOf chain.ground.region.now chain.ground.layout (bit_at (numbered_word c.new-self.result))
    hand.coins.pieces hand.coins.kept.bits.words (numbered_word hand.coins.kept.bits)) hands) (sym kept)
    (subst (λ (n : Numbering). All (λ hand. AreCoinsOf chain.ground.region.now chain.ground.layout (bit_at (numbered_word n))
    hand.coins.pieces hand.coins.kept.bits.words (numbered_word hand.coins.kept.bits)) new) (sym c.new-self.ensures)
    (c.deal.ensures.coins chain.ground.region.now chain.ground.layout (bit_at (numbered_word chain.bits))
    (subst (λ hands. All (λ hand. AreCoinsOf chain.ground.region.now chain.ground.layout (bit_at (numbered_word chain.bits))
    hand.coins.pieces hand.coins.kept.bits.words (numbered_word hand.coins.kept.bits)) hands) (sym c.deref_mut.ensures.value) chain.coins)))
