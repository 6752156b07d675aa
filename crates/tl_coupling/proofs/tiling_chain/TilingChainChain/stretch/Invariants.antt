use Rattle.std.proofs.Common.{◌≡◌, if◌then◌else◌}
use Rattle.tl_bits.specs.Bits.{bit_at}
use Rattle.tl_coupling.specs.Carried.{carried_numbers}
use Rattle.tl_coupling.proofs.tiling_chain.TilingChainChain.stretch.Given as goal

-- What is left of the sweeps takes both heights to where all of them take those that were lent. Where the two have met, the
-- low heights are taken there for both.
abbrev pub invariant-loop-earlier : goal.invariant-loop-earlier
invariant-loop-earlier g l =
    let left = carried_numbers l.self.low.region (bit_at (g.B.Bits.word_at l.fn.self.bits)) in
    record {
      same_low : l.self.low ≡ l.fn.self.low;
      same_high : l.self.high ≡ l.fn.self.high;
      low_region : l.low.region ≡ l.self.low.region;
      high_region : l.high.region ≡ l.self.low.region;
      low_left : left l.earlier l.low.numbers ≡ left l.from l.fn.low.numbers;
      high_left : left l.earlier (if l.met then l.low.numbers else l.high.numbers) ≡ left l.from l.fn.high.numbers;
      same_function : g.B.Bits.word_at l.self.bits ≡ g.B.Bits.word_at l.fn.self.bits;
    }
