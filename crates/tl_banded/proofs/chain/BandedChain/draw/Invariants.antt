use Rattle.std.proofs.Common.{◌≡◌, ℕ, ◌^◌, ◌<◌}
use Rattle.tl_chain.specs.Chain.{ChainGathers}
use Rattle.tl_banded.specs.Banded.{sampled}
use Rattle.tl_banded.proofs.chain.BandedChain.draw.Given as goal

abbrev pub invariant-loop-exponent : goal.invariant-loop-exponent
invariant-loop-exponent g l = record {
  bottom : l.self.plain.low ≡ l.fn.self.plain.low;
  top : l.self.plain.high ≡ l.fn.self.plain.high;
  bits : l.self.bits ≡ l.fn.self.bits;
  low_belongs : (sampled l.self.plain.low l.self.plain.high l.self.bits).belongs l.low;
  high_belongs : (sampled l.self.plain.low l.self.plain.high l.self.bits).belongs l.high;
  none : (k : ℕ) → k < l.exponent → ¬ ChainGathers (sampled l.fn.self.plain.low l.fn.self.plain.high l.fn.self.bits) (2 ^ k);
}
