-- The ladder is a lawful chain where its rungs stand apart and its high end is one.
use Rattle.std.proofs.Common.{◌≡◌, ℕ, zero, suc, ◌+◌, ◌-◌, ◌*◌, ◌≤◌, ◌<◌, Bool, true, false, if◌then◌else◌, List, arith}
use Rattle.std.specs.Prelude.{nat_le}
use Rattle.std.proofs.lemmas.Bool.Decides.{nat_tests}
use Rattle.std.proofs.Math.Nat.{ℕ_set, suc-mul, mul-le-mul_right, lt_of_mul-lt-mul_right, le_of_mul-le-mul_right}
use Rattle.std.proofs.Math.Bridge.{le_prop}
use Rattle.std.proofs.Math.Path.{Σ_path, to_path_p}
use Rattle.tl_chain.specs.Chain.{IsLawfulChain}
use Rattle.tl_chain.specs.Premises.{IsLawfulChain-prop, IsLawfulChain-merely}
use Rattle.tl_chain.specs.Walk.{goes_up}
use Rattle.tl_chain.specs.Ladder.{IsRung, climbed, climbed_from, ladder}

-- a step takes a rung to a rung
rung-if : (gap : ℕ) (moves : Bool) (there here : ℕ) → IsRung gap there → IsRung gap here → IsRung gap (if moves then there else here)
rung-if gap true there here p q = p
rung-if gap false there here p q = q

rung-above : (gap s : ℕ) → IsRung gap s → IsRung gap (s + gap)
rung-above gap s p = record { count = suc p.count; reached = omega (arith, p.reached, suc-mul p.count gap) }

rung-below : (gap s count : ℕ) → s ≡ count * gap → IsRung gap (s - gap)
rung-below gap s zero e = record { count = 0; reached = omega (arith, e) }
rung-below gap s (suc count) e = record { count = count; reached = omega (arith, e, suc-mul count gap) }

climbed-rung : (high gap : ℕ) (up : Bool) (s : ℕ) → IsRung gap s → IsRung gap (climbed high gap up s)
climbed-rung high gap true s p = rung-if gap (nat_le (s + gap) high) _ s (rung-above gap s p) p
climbed-rung high gap false s p = rung-below gap s p.count p.reached

climbed-le : (high gap : ℕ) (up : Bool) (s : ℕ) → s ≤ high → climbed high gap up s ≤ high
climbed-le high gap true s h = grind (arith, nat_tests)
climbed-le high gap false s h = omega arith

-- Of two rungs the higher one is at least a gap above the other, so a step keeps their order.
multiples-apart : (gap a b : ℕ) → a * gap < b * gap → a * gap + gap ≤ b * gap
multiples-apart gap a b h =
    let more : suc a ≤ b = lt_of_mul-lt-mul_right gap h in
    omega (arith, mul-le-mul_right gap more, suc-mul a gap)

rungs-apart : (gap s t : ℕ) → IsRung gap s → IsRung gap t → s < t → s + gap ≤ t
rungs-apart gap s t p q h =
    let more : p.count * gap < q.count * gap = omega (arith, h, p.reached, q.reached) in
    omega (arith, multiples-apart gap p.count q.count more, p.reached, q.reached)

climbed-mono : (high gap : ℕ) (up : Bool) (s t : ℕ) → (s < t → s + gap ≤ t) → s ≤ t → t ≤ high → climbed high gap up s ≤ climbed high gap up t
climbed-mono high gap true s t apart h k = grind (arith, nat_tests)
climbed-mono high gap false s t apart h k = omega arith

-- the same for all steps from a start
climbed_from-rung : (high gap : ℕ) (ups : List Bool) (from s : ℕ) → IsRung gap s → IsRung gap (climbed_from high gap ups from s)
climbed_from-rung high gap ups zero s p = p
climbed_from-rung high gap ups (suc t) s p = climbed_from-rung high gap ups t _ (climbed-rung high gap (goes_up ups t) s p)

climbed_from-le : (high gap : ℕ) (ups : List Bool) (from s : ℕ) → s ≤ high → climbed_from high gap ups from s ≤ high
climbed_from-le high gap ups zero s h = h
climbed_from-le high gap ups (suc t) s h = climbed_from-le high gap ups t _ (climbed-le high gap (goes_up ups t) s h)

climbed_from-mono : (high gap : ℕ) (ups : List Bool) (from s t : ℕ) → IsRung gap s → IsRung gap t → s ≤ t → t ≤ high
    → climbed_from high gap ups from s ≤ climbed_from high gap ups from t
climbed_from-mono high gap ups zero s t p q h k = h
climbed_from-mono high gap ups (suc n) s t p q h k =
    let up = goes_up ups n in
    climbed_from-mono high gap ups n _ _ (climbed-rung high gap up s p) (climbed-rung high gap up t q)
    (climbed-mono high gap up s t (rungs-apart gap s t p q) h k) (climbed-le high gap up t k)

both-le : (s t : ℕ) → s ≤ t → t ≤ s → s ≡ t
both-le s t h k = omega arith

-- Where the high end is a rung, the ladder is lawful.
IsLawfulChain-rungs : (high gap : ℕ) (ups : List Bool) → IsRung gap high → IsLawfulChain (ladder high gap ups)
IsLawfulChain-rungs high gap ups top = record {
  stays = λ from s lower upper h. (climbed_from-rung high gap ups from s h.0, climbed_from-le high gap ups from s h.1);
  monotone = λ from s t lower upper h k below. climbed_from-mono high gap ups from s t h.0 k.0 below k.1;
  antisymmetric = λ s t h k below above. both-le s t below above;
  low_lawful = (record { count = 0; reached = omega arith }, omega arith);
  high_lawful = (top, omega arith);
  low_lowest = λ s h. omega arith;
  high_highest = λ s h. h.1;
}

-- Where the gap isn't 0, a rung has one number of gaps.
count-one : (gap a b place : ℕ) → 1 ≤ gap → place ≡ a * gap → place ≡ b * gap → a ≡ b
count-one gap a b place apart d e =
    let upper : a ≤ b = le_of_mul-le-mul_right {k = gap} (omega (arith, d, e)) apart in
    let lower : b ≤ a = le_of_mul-le-mul_right {k = gap} (omega (arith, d, e)) apart in
    omega (arith, upper, lower)

reached-one : (gap place : ℕ) → 1 ≤ gap → IsProp ((count : ℕ) × (place ≡ count * gap))
reached-one gap place apart p q =
    let e : p.0 ≡ q.0 = count-one gap p.0 q.0 place apart p.1 q.1 in
    Σ_path e (to_path_p (λ i. place ≡ e i * gap) (ℕ_set _ _ _ _))

IsRung-prop : (gap place : ℕ) → 1 ≤ gap → IsProp (IsRung gap place)
IsRung-prop gap place apart = hlevel (reached-one gap place apart)

-- So it is enough to know that the high end is a rung.
pub IsLawfulChain-ladder : (high gap : ℕ) (ups : List Bool) → 1 ≤ gap → ∥ IsRung gap high ∥₁ → IsLawfulChain (ladder high gap ups)
IsLawfulChain-ladder high gap ups apart known =
    let one = IsLawfulChain-prop (ladder high gap ups) ℕ_set (λ s. hlevel (IsRung-prop gap s apart, le_prop)) (λ s t. le_prop) in
    IsLawfulChain-merely (ladder high gap ups) one known (IsLawfulChain-rungs high gap ups)
