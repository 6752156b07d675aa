use Rattle.std.proofs.Common.{◌≡◌, ℕ, ◌^◌, ◌≤◌, ◌%◌, ◌*◌, Bool, false, IsTrue, arith, rules, refl, sym, ◌∙◌, ap, subst, below_more}
use Rattle.std.proofs.lemmas.Nat.{one_shl}
use Rattle.std.proofs.Math.Pow.{pow_mono}
use Rattle.tl_lists.specs.Powers.{IsLeastPower, NoPower}
use Rattle.tl_chain.specs.Chain.{ChainMeaning, SameMeaning, ChainGathers}
use Rattle.tl_chain.specs.declared.Drawn.TheVariants.{At, Late}
use Rattle.tl_chain.proofs.Meaning.{SameMeaning-sym, SameMeaning-trans, ChainGathers-same}
use Rattle.tl_lists.proofs.Powers.{same_power}
use Rattle.tl_chain.proofs.Search.{IsLeastPower-first, NoPower-least, NoPower-last}
use Rattle.tl_chain.proofs.draw.Given
use Rattle.tl_chain.proofs.draw.Goals as goal

-- the start of an exponent fits its type
start_of : (exponent : ℕ) → exponent ≤ 30 → 1 * 2 ^ exponent % 2 ^ 64 ≡ 2 ^ exponent
start_of e h = one_shl e 64 (omega (arith, h))

pub gathers-requires-clause-in_range : goal.gathers-requires-clause-in_range
gathers-requires-clause-in_range g c =
    let top : c.loop-exponent.exponent ≤ 30 = omega arith in
    rw (start_of c.loop-exponent.exponent top) (pow_mono top)

-- What the answer is where there is a start: this one and no other, and the draw isn't late.
at_start : (P : ℕ → Type 0) (bound from start : ℕ) → from ≡ start → IsLeastPower P bound start
    → (T : ℕ) → (At from ≡ At T → IsLeastPower P bound T) × (IsLeastPower P bound T → At from ≡ At T)
at_start P bound from start is least T = (
  λ e. let same : start ≡ T = cc (e, is) in subst (IsLeastPower P bound) same least,
  λ other. ap At (is ∙ same_power P bound start T least other),
)

not_late : (P : ℕ → Type 0) (bound from start : ℕ) → IsLeastPower P bound start
    → (At from ≡ Late → NoPower P bound) × (NoPower P bound → At from ≡ Late)
not_late P bound from start least = (λ e. cc e, λ none. absurd (NoPower-least P bound start least none))

-- And where there is none.
no_start : (P : ℕ → Type 0) (bound : ℕ) → NoPower P bound
    → (T : ℕ) → (Late ≡ At T → IsLeastPower P bound T) × (IsLeastPower P bound T → Late ≡ At T)
no_start P bound none T = (λ e. cc e, λ least. absurd (NoPower-least P bound T least none))

begun : (g : Given.Over) (c : goal.Then-gathers g)
    → IsLeastPower (ChainGathers (g.C.Chain.meaning c.args.chain.now)) c.args.bound (2 ^ c.loop-exponent.exponent)
begun g c =
    let top : c.loop-exponent.exponent ≤ 30 = omega arith in
    let within : c.loop-exponent.exponent ≤ c.args.bound = omega arith in
    let M = g.C.Chain.meaning c.args.chain.now in
    let here = ChainGathers-same M _ _ c.loop-exponent.invariant.same_meaning (c.gathers.ensures.gathers.0 c.if-gathers.true) in
    IsLeastPower-first (ChainGathers M) _ c.loop-exponent.exponent within c.loop-exponent.invariant.none
    (subst (ChainGathers M) (start_of c.loop-exponent.exponent top) here)

pub returns-then-gathers-clause-at : goal.returns-then-gathers-clause-at
returns-then-gathers-clause-at g c =
    let top : c.loop-exponent.exponent ≤ 30 = omega arith in
    at_start (ChainGathers (g.C.Chain.meaning c.args.chain.now)) _ _ _ (start_of c.loop-exponent.exponent top) (begun g c)

pub returns-then-gathers-clause-late : goal.returns-then-gathers-clause-late
returns-then-gathers-clause-late g c =
    not_late (ChainGathers (g.C.Chain.meaning c.args.chain.now)) _ _ (2 ^ c.loop-exponent.exponent) (begun g c)

-- a start that the chain as it is doesn't gather from is none for the chain as it was lent
none_here : {S : Type 0} (M N : ChainMeaning S) (from start : ℕ) (answer : Bool) → from ≡ start → SameMeaning M N
    → (ChainGathers N from → IsTrue answer) → answer ≡ false → ¬ ChainGathers M start
none_here M N from start answer is kept tells apart all =
    let there = ChainGathers-same N M from (SameMeaning-sym M N kept) (subst (ChainGathers M) (sym is) all) in
    cc (tells there, apart)

pub loop-exponent-preserved : goal.loop-exponent-preserved
loop-exponent-preserved g c =
    let top : c.loop-exponent.exponent ≤ 30 = omega arith in
    record {
      same_meaning = SameMeaning-trans _ _ _ c.loop-exponent.invariant.same_meaning c.gathers.ensures.same_meaning;
      low_belongs = search rules;
      high_belongs = search rules;
      none = below_more _ _ c.loop-exponent.invariant.none
          (none_here _ _ _ _ _ (start_of c.loop-exponent.exponent top) c.loop-exponent.invariant.same_meaning c.gathers.ensures.gathers.1 c.if-gathers.false);
    }

none_left : (g : Given.Over) (c : goal.Else-exponent-bound g)
    → NoPower (ChainGathers (g.C.Chain.meaning c.args.chain.now)) c.args.bound
none_left g c =
    let top : c.loop-exponent.exponent ≤ 30 = omega arith in
    let last : c.args.bound ≤ c.loop-exponent.exponent = omega arith in
    NoPower-last (ChainGathers (g.C.Chain.meaning c.args.chain.now)) _ c.loop-exponent.exponent last c.loop-exponent.invariant.none
    (none_here _ _ _ _ _ (start_of c.loop-exponent.exponent top) c.loop-exponent.invariant.same_meaning c.gathers.ensures.gathers.1 c.if-gathers.false)

pub returns-else-gathers-clause-at : goal.returns-else-gathers-clause-at
returns-else-gathers-clause-at g c = no_start (ChainGathers (g.C.Chain.meaning c.args.chain.now)) _ (none_left g c)

pub returns-else-gathers-clause-late : goal.returns-else-gathers-clause-late
returns-else-gathers-clause-late g c = (λ e. none_left g c, λ none. refl)
