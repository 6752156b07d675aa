-- What meets the definitions of chains, and what near it doesn't.
use Rattle.std.proofs.Common.{◌≡◌, ℕ, zero, suc, ◌^◌, ◌-◌, ◌+◌, ◌≤◌, ◌<◌, Bool, true, false, List, [], ◌∷◌, refl, arith}
use Rattle.std.specs.Prelude.{⊤}
use Rattle.tl_chain.specs.Chain.{ChainMeaning, IsLawfulChain, SameMeaning, ChainGathers, IsChainStart, IsChainLate, AllCarriedTo}
use Rattle.tl_chain.specs.Walk.{walk, walked}
use Rattle.tl_chain.specs.Ladder.{IsRung, ladder}
use Rattle.tl_chain.specs.LadderLaws.{IsLawfulChain-ladder}
use Rattle.tl_chain.proofs.Ends.{ChainGathers-one}
use Rattle.tl_chain.proofs.Meaning.{SameMeaning-refl}
use Rattle.tl_lists.proofs.Powers.{same_power}
use Rattle.tl_chain.proofs.Search.{NoPower-least}

below_three : (P : ℕ → Type 0) → P 0 → P 1 → P 2 → (s : ℕ) → s ≤ 2 → P s
below_three P a b c zero h = a
below_three P a b c (suc zero) h = b
below_three P a b c (suc (suc zero)) h = c
below_three P a b c (suc (suc (suc s))) h = absurd (omega (arith, h))

-- a chain of the numbers 0, 1, 2 that carries each to itself
abbrev resting : ChainMeaning ℕ
resting = record {
  belongs = λ s. ⊤;
  lawful = λ s. s ≤ 2;
  below = λ s t. s ≤ t;
  low = 0;
  high = 2;
  carried = λ s from. s;
}

both_below : (s t : ℕ) → s ≤ t → t ≤ s → s ≡ t
both_below s t h k = omega arith

resting-lawful : IsLawfulChain resting
resting-lawful = record {
  stays = λ from s lower upper h. h;
  monotone = λ from s t lower upper h k below. below;
  antisymmetric = λ s t h k below above. both_below s t below above;
  low_lawful = omega arith;
  high_lawful = omega arith;
  low_lowest = λ s h. omega arith;
  high_highest = λ s h. h;
}

-- each law refuses a chain that breaks it alone
strays-unlawful : ¬ IsLawfulChain (record resting { carried = λ s from. s + 1 })
strays-unlawful laws = omega (arith, laws.stays 1 2 (omega arith) (omega arith) (omega arith))

turns-unlawful : ¬ IsLawfulChain (record resting { carried = λ s from. 2 - s })
turns-unlawful laws = omega (arith, laws.monotone 1 0 2 (omega arith) (omega arith) (omega arith) (omega arith) (omega arith))

all_below-unlawful : ¬ IsLawfulChain (record resting { below = λ s t. ⊤ })
all_below-unlawful laws = omega (arith, laws.antisymmetric 0 1 (omega arith) (omega arith) tt tt)

low_outside-unlawful : ¬ IsLawfulChain (record resting { lawful = λ s. (1 ≤ s) × (s ≤ 2) })
low_outside-unlawful laws = omega (arith, laws.low_lawful.0)

high_outside-unlawful : ¬ IsLawfulChain (record resting { high = 3 })
high_outside-unlawful laws = omega (arith, laws.high_lawful)

low_inside-unlawful : ¬ IsLawfulChain (record resting { low = 1 })
low_inside-unlawful laws = omega (arith, laws.low_lowest 0 (omega arith))

high_inside-unlawful : ¬ IsLawfulChain (record resting { high = 1 })
high_inside-unlawful laws = omega (arith, laws.high_highest 2 (omega arith))

-- The walk on 0, 1, 2 that goes up at time -1 and down before meets from -4 at place 1, by place 0 at time -2.
abbrev ups : List Bool
ups = true ∷ false ∷ false ∷ false ∷ []

from_4 : AllCarriedTo (walk 2 ups) 4 1
from_4 = below_three (λ s. walked 2 ups 4 s ≡ 1) refl refl refl

from_4-not_0 : ¬ AllCarriedTo (walk 2 ups) 4 0
from_4-not_0 all = omega (arith, all 0 (omega arith))

apart_from_1 : ¬ ChainGathers (walk 2 ups) 1
apart_from_1 all = omega (arith, all 0 2 (omega arith) (omega arith))

apart_from_2 : ¬ ChainGathers (walk 2 ups) 2
apart_from_2 all = omega (arith, all 0 2 (omega arith) (omega arith))

start_4 : (bound : ℕ) → 2 ≤ bound → IsChainStart (walk 2 ups) bound 4
start_4 bound high = record {
  exponent = 2;
  power = refl;
  within = high;
  holds = ChainGathers-one (walk 2 ups) 4 1 from_4;
  least = λ k h. below_two k h;
}
  where
    below_two : (k : ℕ) → k < 2 → ¬ ChainGathers (walk 2 ups) (2 ^ k)
    below_two zero h = apart_from_1
    below_two (suc zero) h = apart_from_2
    below_two (suc (suc k)) h = absurd (omega (arith, h))

late_at_1 : IsChainLate (walk 2 ups) 1
late_at_1 zero h = apart_from_1
late_at_1 (suc zero) h = apart_from_2
late_at_1 (suc (suc k)) h = absurd (omega (arith, h))

not_late_at_2 : ¬ IsChainLate (walk 2 ups) 2
not_late_at_2 none = none 2 (omega arith) (ChainGathers-one (walk 2 ups) 4 1 from_4)

-- a later start is not the start, and none is past the bound
not_start_8 : ¬ IsChainStart (walk 2 ups) 3 8
not_start_8 s = omega (arith, same_power (ChainGathers (walk 2 ups)) 3 8 4 s (start_4 3 (omega arith)))

not_start_past_bound : ¬ IsChainStart (walk 2 ups) 1 4
not_start_past_bound s = NoPower-least (ChainGathers (walk 2 ups)) 1 4 s late_at_1

-- a chain means what it does, and another top or other steps are another chain
same_walk : SameMeaning (walk 2 ups) (walk 2 ups)
same_walk = SameMeaning-refl (walk 2 ups)

other_top : ¬ SameMeaning (walk 2 ups) (walk 3 ups)
other_top same = omega (arith, same.high)

other_steps : ¬ SameMeaning (walk 2 ups) (walk 2 [])
other_steps same = omega (arith, same.carried 0 1)

-- Places on the ladder with a gap of 3. It is lawful where it ends with a rung, and isn't where it ends between two.
rung_6 : IsRung 3 6
rung_6 = record { count = 2; reached = refl }

rung-not_7 : ¬ IsRung 3 7
rung-not_7 rung = omega (arith, rung.reached)

ladder_6-lawful : IsLawfulChain (ladder 6 3 ups)
ladder_6-lawful = IsLawfulChain-ladder 6 3 ups (omega arith) ∣ rung_6 ∣₁

ladder_7-unlawful : ¬ IsLawfulChain (ladder 7 3 ups)
ladder_7-unlawful laws = rung-not_7 laws.high_lawful.0
