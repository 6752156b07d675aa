use Rattle.std.proofs.Common.{sym, subst}
use Rattle.tl_packed_chain.proofs.Known.{known-lows}
use Rattle.tl_packed_chain.proofs.packed_chain.PackedChainChain.same.Goals as goal

pub is_same-requires-clause-lows : goal.is_same-requires-clause-lows
is_same-requires-clause-lows g c =
    known-lows c.args.self.now.low.heights.region c.args.low.now.heights.region c.args.self.now.low.layout c.args.low.now.layout c.args.self.now.slots
    c.requires.low_belongs.1 c.requires.low_belongs.0 c.args.self.now.slots_of
