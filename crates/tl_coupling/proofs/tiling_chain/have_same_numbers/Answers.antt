use Rattle.std.proofs.Common.{sym, ◌∙◌}
use Rattle.std.specs.Cmp.Rules.{signed_items}
use Rattle.tl_coupling.proofs.tiling_chain.have_same_numbers.Goals as goal

pub returns : goal.returns
returns c = (
  λ same. sym c.numbers.ensures.numbers ∙ (signed_items _ _).0 (sym c.eq.ensures ∙ same) ∙ c.numbers-2.ensures.numbers,
  λ e. c.eq.ensures ∙ (signed_items _ _).1 (c.numbers.ensures.numbers ∙ e ∙ sym c.numbers-2.ensures.numbers),
)
