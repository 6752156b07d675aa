-- What is left of the sweeps of a start takes both ends to where all of them take those that were joined.
use Rattle.std.proofs.Common.{◌≡◌, ℕ, zero, suc, ◌+◌, ◌-◌, ◌<◌, Bool, List, ℤ, refl, ◌∙◌, ap, subst, arith}
use Rattle.tl_definitions.specs.Region.{Region}
use Rattle.tl_layout.specs.declared.layout.Layout.{Layout}
use Rattle.tl_packed.specs.declared.strings.Strings.{Strings}
use Rattle.tl_packed.specs.Packs.{HoldEnds}
use Rattle.tl_coupling.specs.Carried.{carried_numbers, swept}

module _ (R : Region) (l : Layout) (bits : ℕ → ℕ → Bool) (from : ℕ) (old : Strings) where
  -- the strings hold two ends for which the sweeps of these times are left
  abbrev pub IsLeft : ℕ → Strings → Type 0
  IsLeft time now = (low high : List ℤ) → HoldEnds R l old low high
      → (bottom : List ℤ) × (top : List ℤ) × HoldEnds R l now bottom top × (carried_numbers R bits time bottom ≡ carried_numbers R bits from low)
      × (carried_numbers R bits time top ≡ carried_numbers R bits from high)

  abbrev IsSwept : ℕ → Strings → Strings → Type 0
  IsSwept time now next = (low high : List ℤ) → HoldEnds R l now low high → HoldEnds R l next (swept R (bits time) low) (swept R (bits time) high)

  pub left-all : IsLeft from old
  left-all low high holds = (low, high, holds, refl, refl)

  pub left-less : (time : ℕ) (now next : Strings) → 0 < time → IsSwept (time - 1 + 1) now next → IsLeft time now → IsLeft (time - 1) next
  left-less zero now next some sweeps left low high holds = absurd (omega (arith, some))
  left-less (suc t) now next some sweeps left low high holds =
      let before : suc t - 1 ≡ t = omega arith in
      let at : suc t - 1 + 1 ≡ suc t = omega arith in
      let (bottom, top, there, p, q) = left low high holds in
      let done : IsSwept (suc t) now next = subst (λ (n : ℕ). IsSwept n now next) at sweeps in
      rw before ((swept R (bits (suc t)) bottom, swept R (bits (suc t)) top, done bottom top there, p, q))

  pub left-none : (now : Strings) → IsLeft 0 now → (low high : List ℤ) → HoldEnds R l old low high
      → HoldEnds R l now (carried_numbers R bits from low) (carried_numbers R bits from high)
  left-none now left low high holds =
      let (bottom, top, there, p, q) = left low high holds in
      subst (λ (n : List ℤ). HoldEnds R l now n (carried_numbers R bits from high)) p (subst (λ (n : List ℤ). HoldEnds R l now bottom n) q there)
