use Rattle.std.proofs.Common.{◌≡◌, length, sym, ◌∙◌, ap, subst, arith}
use Rattle.std.specs.Prelude.{All}
use Rattle.tl_definitions.specs.Region.{Region, inner_corners}
use Rattle.tl_bits.specs.Bits.{bit_at, words_for}
use Rattle.tl_bits.specs.Sources.{Numbering, numbered_word}
use Rattle.tl_height.specs.HeightFunction.{HeightFunction}
use Rattle.tl_packed.specs.PackedTiling.{PackedTiling}
use Rattle.tl_crew.specs.Hands.{AreCoinsOf}
use Rattle.tl_banded.proofs.chain.BandedChain.new.Goals as goal

pub invariant_of-result-2 : goal.invariant_of-result-2
invariant_of-result-2 g c =
    let R = c.region-region.result.now in
    let layout = c.layout-layout.result in
    record {
      one_region = c.region-region.ensures.region ∙ sym (ap (λ (h : HeightFunction). h.region) c.in_ok-plain.ensures.low);
      one_layout = c.layout-layout.ensures.layout ∙ ap (λ (t : PackedTiling). t.layout) c.in_ok-bottom.ensures;
      enough_words = c.words_of-words.ensures.words ∙ ap (λ (Q : Region). words_for (length (inner_corners Q))) (sym c.region-region.ensures.region);
      numbered = c.new-3.ensures;
      few_hands = omega (arith, c.in_ok-hands.ensures.count);
      shares = c.in_ok-hands.ensures.shares;
      coins = subst (λ (n : Numbering). All (λ hand. AreCoinsOf R layout (bit_at (numbered_word n))
          hand.coins.pieces hand.coins.kept.bits.words (numbered_word hand.coins.kept.bits)) c.in_ok-hands.hands.items) (c.new-first.ensures ∙ sym c.new-3.ensures)
          c.in_ok-hands.ensures.coins;
      start_size = c.in_ok-new.ensures.size;
      both_size = c.in_ok-new-2.ensures.size;
    }
