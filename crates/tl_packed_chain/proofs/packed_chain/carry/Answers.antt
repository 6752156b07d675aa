use Rattle.std.proofs.Common.{◌≡◌, ℕ, ◌+◌, ◌-◌, ◌∙◌, subst, arith}
use Rattle.tl_bits.specs.Bits.{bit_at}
use Rattle.tl_packing.specs.Packing.{HasCoins}
use Rattle.tl_packed_chain.proofs.Left.{IsLeft, left-less, left-none}
use Rattle.tl_packed_chain.proofs.packed_chain.carry.Goals as goal

pub loop-earlier-preserved : goal.loop-earlier-preserved
loop-earlier-preserved g c =
    let layout = c.args.layout.now in
    let kept = c.loop-earlier.invariant in
    let time : ℕ = c.loop-earlier.earlier - 1 + 1 in
    let word_at = g.B.Bits.word_at c.args.kept.now.bits in
    record {
      same_words = c.lay_out.ensures.same_words ∙ kept.same_words;
      same_function = c.lay_out.ensures.same_function ∙ kept.same_function;
      coins_size = c.lay_out.ensures.size ∙ kept.coins_size;
      both_size = c.sweep_both.ensures.size;
      left = λ R ready.
          let coins : HasCoins R layout.height layout.first (bit_at word_at time) c.lay_out.new.coins =
          subst (λ (f : ℕ → ℕ → ℕ). HasCoins R layout.height layout.first (bit_at f time) c.lay_out.new.coins) kept.same_function
          (c.lay_out.ensures.laid R layout ready.are_pieces) in
          left-less R layout (bit_at word_at) c.args.from c.args.both.now c.loop-earlier.earlier c.loop-earlier.both c.sweep_both.new.both (omega arith)
          (λ low high holds. c.sweep_both.ensures.swept R (bit_at word_at time) low high ready.is_accepted ready.of_region ready.are_slots coins holds)
          (kept.left R ready);
    }

pub returns-clause-carried : goal.returns-clause-carried
returns-clause-carried g c =
    let done : c.loop-earlier.earlier ≡ 0 = omega arith in
    let bits = bit_at (g.B.Bits.word_at c.args.kept.now.bits) in
    λ R ready low high holds.
    left-none R c.args.layout.now bits c.args.from c.args.both.now c.loop-earlier.both
    (subst (λ (n : ℕ). IsLeft R c.args.layout.now bits c.args.from c.args.both.now n c.loop-earlier.both) done (c.loop-earlier.invariant.left R ready)) low high holds
