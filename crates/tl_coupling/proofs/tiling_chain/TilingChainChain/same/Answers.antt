use Rattle.std.proofs.Common.{sym, ◌∙◌, ap}
use Rattle.tl_coupling.specs.Laws.{same_function}
use Rattle.tl_coupling.proofs.tiling_chain.TilingChainChain.same.Goals as goal

pub returns : goal.returns
returns g c = (
  λ met. same_function c.args.low.now c.args.high.now (c.requires.low_belongs ∙ sym c.requires.high_belongs) (c.have_same_numbers.ensures.0 met),
  λ e. c.have_same_numbers.ensures.1 (ap (λ s. s.numbers) e),
)
