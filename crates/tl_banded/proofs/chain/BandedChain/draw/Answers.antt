use Rattle.std.proofs.Common.{◌≡◌, ℕ, ◌+◌, ◌*◌, ◌^◌, ◌%◌, ◌≤◌, ◌<◌, Bool, false, IsTrue, arith, rules, refl, sym, ◌∙◌, ap, subst, below_more}
use Rattle.std.proofs.lemmas.Nat.{one_shl}
use Rattle.std.proofs.Math.Pow.{pow_mono}
use Rattle.tl_lists.specs.Powers.{IsLeastPower, NoPower}
use Rattle.tl_bits.specs.Sources.{Numbering}
use Rattle.tl_chain.specs.Chain.{AllCarriedTo, ChainGathers}
use Rattle.tl_chain.proofs.Search.{IsLeastPower-first, NoPower-last}
use Rattle.tl_packed.specs.PackedTiling.{PackedTiling}
use Rattle.tl_banded.specs.Banded.{sampled}
use Rattle.tl_banded.proofs.Sampled.{at-start, no-start, none-of, not-late, same-chain}
use Rattle.tl_banded.proofs.chain.BandedChain.draw.Given
use Rattle.tl_banded.proofs.chain.BandedChain.draw.Goals as goal
use Rattle.tl_banded.proofs.chain.BandedChain.draw.Goals.{Else-exponent-bound, Then-gathers}

-- the start of an exponent fits its type
start-of : (exponent : ℕ) → exponent ≤ 30 → 1 * 2 ^ exponent % 2 ^ 64 ≡ 2 ^ exponent
start-of e h = one_shl e 64 (omega (arith, h))

pub gathers-requires-clause-in_range : goal.gathers-requires-clause-in_range
gathers-requires-clause-in_range g c κs within =
    let top : c.loop-exponent.exponent ≤ 30 = omega arith in
    rw (start-of c.loop-exponent.exponent top) (pow_mono top)

begun : (g : Given.Over) (c : goal.Then-gathers g)
    → IsLeastPower (ChainGathers (sampled c.args.self.now.plain.low c.args.self.now.plain.high c.args.self.now.bits)) c.args.bound (2 ^ c.loop-exponent.exponent)
begun g c =
    let top : c.loop-exponent.exponent ≤ 30 = omega arith in
    let within : c.loop-exponent.exponent ≤ c.args.bound = omega arith in
    let M = sampled c.args.self.now.plain.low c.args.self.now.plain.high c.args.self.now.bits in
    let here = same-chain (λ low high bits. ChainGathers (sampled low high bits) (1 * 2 ^ c.loop-exponent.exponent % 2 ^ 64))
    c.loop-exponent.self.plain.low c.loop-exponent.self.plain.high c.args.self.now.plain.low c.args.self.now.plain.high c.loop-exponent.self.bits c.args.self.now.bits
    c.loop-exponent.invariant.bottom c.loop-exponent.invariant.top c.loop-exponent.invariant.bits (c.gathers.ensures.gathers.0 c.if-gathers.true) in
    IsLeastPower-first (ChainGathers M) _ c.loop-exponent.exponent within c.loop-exponent.invariant.none
    (subst (ChainGathers M) (start-of c.loop-exponent.exponent top) here)

pub returns-then-gathers-clause-at : goal.returns-then-gathers-clause-at
returns-then-gathers-clause-at g c =
    let top : c.loop-exponent.exponent ≤ 30 = omega arith in
    at-start (ChainGathers (sampled c.args.self.now.plain.low c.args.self.now.plain.high c.args.self.now.bits)) _ _ _ (start-of c.loop-exponent.exponent top)
    (begun g (goal.at.returns-then-gathers-clause-at g c).Then-gathers)

pub returns-then-gathers-clause-late : goal.returns-then-gathers-clause-late
returns-then-gathers-clause-late g c =
    not-late (ChainGathers (sampled c.args.self.now.plain.low c.args.self.now.plain.high c.args.self.now.bits)) _ _ (2 ^ c.loop-exponent.exponent)
    (begun g (goal.at.returns-then-gathers-clause-late g c).Then-gathers)

pub returns-then-gathers-clause-gathered : goal.returns-then-gathers-clause-gathered
returns-then-gathers-clause-gathered g c T at =
    let from : ℕ = 1 * 2 ^ c.loop-exponent.exponent % 2 ^ 64 in
    let same : from ≡ T = cc at in
    same-chain (λ low high bits. AllCarriedTo (sampled low high bits) T c.gathers.new.low)
    c.loop-exponent.self.plain.low c.loop-exponent.self.plain.high c.args.self.now.plain.low c.args.self.now.plain.high c.loop-exponent.self.bits c.args.self.now.bits
    c.loop-exponent.invariant.bottom c.loop-exponent.invariant.top c.loop-exponent.invariant.bits
    (subst (λ (n : ℕ). AllCarriedTo (sampled c.loop-exponent.self.plain.low c.loop-exponent.self.plain.high c.loop-exponent.self.bits) n c.gathers.new.low) same
    (c.gathers.ensures.gathered c.if-gathers.true))

pub loop-exponent-preserved : goal.loop-exponent-preserved
loop-exponent-preserved g c =
    let top : c.loop-exponent.exponent ≤ 30 = omega arith in
    record {
      bottom = search rules;
      top = search rules;
      bits = search rules;
      low_belongs = search rules;
      high_belongs = search rules;
      none = below_more _ _ c.loop-exponent.invariant.none (none-of c.loop-exponent.self.plain.low c.loop-exponent.self.plain.high c.args.self.now.plain.low c.args.self.now.plain.high c.loop-exponent.self.bits c.args.self.now.bits
          c.loop-exponent.invariant.bottom c.loop-exponent.invariant.top c.loop-exponent.invariant.bits
          (1 * 2 ^ c.loop-exponent.exponent % 2 ^ 64) _ c.gathers.result (start-of c.loop-exponent.exponent top) c.gathers.ensures.gathers.1 c.if-gathers.false);
    }

none-left : (g : Given.Over) (c : goal.Else-exponent-bound g)
    → NoPower (ChainGathers (sampled c.args.self.now.plain.low c.args.self.now.plain.high c.args.self.now.bits)) c.args.bound
none-left g c =
    let top : c.loop-exponent.exponent ≤ 30 = omega arith in
    let last : c.args.bound ≤ c.loop-exponent.exponent = omega arith in
    NoPower-last (ChainGathers (sampled c.args.self.now.plain.low c.args.self.now.plain.high c.args.self.now.bits)) _ c.loop-exponent.exponent last c.loop-exponent.invariant.none
    (none-of c.loop-exponent.self.plain.low c.loop-exponent.self.plain.high c.args.self.now.plain.low c.args.self.now.plain.high c.loop-exponent.self.bits c.args.self.now.bits
    c.loop-exponent.invariant.bottom c.loop-exponent.invariant.top c.loop-exponent.invariant.bits
    (1 * 2 ^ c.loop-exponent.exponent % 2 ^ 64) _ c.gathers.result (start-of c.loop-exponent.exponent top) c.gathers.ensures.gathers.1 c.if-gathers.false)

pub returns-else-gathers-clause-at : goal.returns-else-gathers-clause-at
returns-else-gathers-clause-at g c = no-start (ChainGathers (sampled c.args.self.now.plain.low c.args.self.now.plain.high c.args.self.now.bits)) _
    (none-left g (goal.at.returns-else-gathers-clause-at g c).Else-exponent-bound)

pub returns-else-gathers-clause-late : goal.returns-else-gathers-clause-late
returns-else-gathers-clause-late g c = (λ e. none-left g (goal.at.returns-else-gathers-clause-late g c).Else-exponent-bound, λ none. refl)
