use Rattle.std.proofs.Common.{◌≡◌}
use Rattle.tl_chain.specs.Ladder.{climbed_from}
use Rattle.tl_chain.proofs.examples.ladder.LadderChain.stretch.Given as goal

-- what is left of the climb takes both places to where the whole climb takes those that were lent
abbrev pub invariant-loop-time : goal.invariant-loop-time
invariant-loop-time l =
    let left = climbed_from l.self.high l.self.gap l.self.ups.now in
    (left l.time l.low ≡ left l.from l.fn.low) × (left l.time l.high ≡ left l.from l.fn.high)
