use Rattle.std.proofs.Common.{sym, ◌∙◌, ap}
use Rattle.tl_chain.proofs.Ends.{AreEndsCarried, AllCarriedTo-low, AllCarriedTo-high, ChainGathers-one, same-gathered}
use Rattle.tl_chain.proofs.gathers.Given
use Rattle.tl_chain.proofs.gathers.Goals as goal

carried : (g : Given.Over) (c : goal.After-same g)
    → AreEndsCarried (g.C.Chain.meaning c.args.chain.now) c.args.from c.stretch.new.low c.stretch.new.high
carried g c = record {
  low_is = c.stretch.ensures.low ∙ sym (c.ends.ensures.same_meaning.carried c.ends.new.low c.args.from)
      ∙ ap (λ s. (g.C.Chain.meaning c.args.chain.now).carried s c.args.from) c.ends.ensures.low;
  high_is = c.stretch.ensures.high ∙ sym (c.ends.ensures.same_meaning.carried c.ends.new.high c.args.from)
      ∙ ap (λ s. (g.C.Chain.meaning c.args.chain.now).carried s c.args.from) c.ends.ensures.high;
}

pub returns-clause-low_gathered : goal.returns-clause-low_gathered
returns-clause-low_gathered g c met =
    AllCarriedTo-low (g.C.Chain.meaning c.args.chain.now) c.args.from _ _ (g.met.C.Chain.laws c.args.chain.now)
    c.requires.at_least_1 c.requires.in_range (carried g c) (c.same.ensures.0 met)

pub returns-clause-high_gathered : goal.returns-clause-high_gathered
returns-clause-high_gathered g c met =
    AllCarriedTo-high (g.C.Chain.meaning c.args.chain.now) c.args.from _ _ (g.met.C.Chain.laws c.args.chain.now)
    c.requires.at_least_1 c.requires.in_range (carried g c) (c.same.ensures.0 met)

pub returns-clause-gathers : goal.returns-clause-gathers
returns-clause-gathers g c = (
  λ met. ChainGathers-one (g.C.Chain.meaning c.args.chain.now) c.args.from c.stretch.new.low (returns-clause-low_gathered g c met),
  λ all. c.same.ensures.1 (same-gathered (g.C.Chain.meaning c.args.chain.now) c.args.from _ _ (g.met.C.Chain.laws c.args.chain.now) (carried g c) all),
)
