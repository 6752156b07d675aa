use Rattle.std.proofs.Common.{◌≡◌}
use Rattle.tl_chain.specs.Walk.{walked}
use Rattle.tl_chain.proofs.examples.walk.WalkChain.stretch.Given as goal

-- what is left of the walk takes both places to where the whole walk takes those that were lent
abbrev pub invariant-loop-time : goal.invariant-loop-time
invariant-loop-time l =
    (walked l.self.top l.self.ups.now l.time l.low ≡ walked l.self.top l.self.ups.now l.from l.fn.low)
    × (walked l.self.top l.self.ups.now l.time l.high ≡ walked l.self.top l.self.ups.now l.from l.fn.high)
