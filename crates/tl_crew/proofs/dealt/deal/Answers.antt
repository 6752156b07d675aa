use Rattle.std.proofs.Common.{◌≡◌, ◌<◌, length, refl, sym, ◌∙◌, ap, subst, arith}
use Rattle.std.proofs.lemmas.List.{get_or_default}
use Rattle.std.proofs.lemmas.List.Elements.{All-set}
use Rattle.std.proofs.Math.ListN.{length-set}
use Rattle.tl_bits.specs.Bits.{bit_at}
use Rattle.tl_bits.specs.Sources.{Numbering, numbered_word}
use Rattle.tl_layout.specs.declared.piece.Pieces.{Pieces}
use Rattle.tl_layout.specs.Coins.{ArePiecesOf}
use Rattle.tl_crew.specs.Hands.{numbering}
use Rattle.tl_crew.proofs.Alike.{alike-itself, alike-put, shares-alike}
use Rattle.tl_crew.proofs.Begun.{put-at}
use Rattle.tl_crew.proofs.dealt.deal.Goals as goal

pub loop-j-init : goal.loop-j-init
loop-j-init c = record {
  words = c.requires.words;
  bits = λ k d before. absurd (omega (arith, before));
  pieces = alike-itself (λ hand. hand.coins.pieces) c.args.hands.now;
  share = alike-itself (λ hand. hand.share) c.args.hands.now;
  count = refl;
}

pub deal_one-requires : goal.deal_one-requires
deal_one-requires c = record { words = c.loop-j.invariant.words _ _ (omega (arith, c.loop-j-test.true, c.loop-j.invariant.count)) }

pub loop-j-preserved : goal.loop-j-preserved
loop-j-preserved c =
    let hands = c.loop-j.hands in
    let j = c.loop-j.j in
    let r = c.index-hands-j.result in
    let new = c.deal_one.new.this in
    let told = c.deal_one.ensures in
    let kept = c.loop-j.invariant in
    let within : j < length hands = omega (arith, c.loop-j-test.true, kept.count) in
    record {
      words = All-set (λ hand. hand.coins.kept.bits.words ≡ c.args.words) hands j new (ap (λ (b : Numbering). b.words) told.bits) kept.words;
      bits = put-at (λ hand. hand.coins.kept.bits ≡ numbering c.args.seed c.args.sample c.args.words) hands j new within told.bits kept.bits;
      pieces = alike-put (λ hand. hand.coins.pieces) c.args.hands.now hands j new kept.count within
          (λ d. told.pieces ∙ ap (λ hand. hand.coins.pieces) (get_or_default hands j r d within)) kept.pieces;
      share = alike-put (λ hand. hand.share) c.args.hands.now hands j new kept.count within
          (λ d. told.share ∙ ap (λ hand. hand.share) (get_or_default hands j r d within)) kept.share;
      count = length-set hands j new ∙ kept.count;
    }

pub returns-clause-shares : goal.returns-clause-shares
returns-clause-shares c l =
    shares-alike (λ hand. hand.share) l c.args.hands.now c.loop-j.hands c.loop-j.invariant.count c.loop-j.invariant.share

pub returns-clause-coins : goal.returns-clause-coins
returns-clause-coins c R l bits old k d within =
    let kept = c.loop-j.invariant in
    let inside : k < length c.args.hands.now = omega (arith, within, kept.count) in
    let before = old k d inside in
    let dealt = kept.bits k d (omega (arith, within, c.loop-j-test.false, c.loop-j.auto.j-end, kept.count)) in
    record {
      lays_out = subst (λ (p : Pieces). ∥ ArePiecesOf R l p ∥₁) (sym (kept.pieces k d inside)) before.lays_out;
      enough = ap (λ (b : Numbering). b.words) dealt ∙ (sym (c.requires.words k d inside) ∙ before.enough);
      same_bits = ap (λ (b : Numbering). bit_at (numbered_word b)) dealt;
    }
