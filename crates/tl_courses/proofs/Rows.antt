-- Steps in some rows, by the bits of these rows and of those beside them.
use Rattle.std.proofs.Common.{◌≡◌, ◌≢◌, ℕ, zero, suc, ◌+◌, ◌-◌, ◌%◌, ◌<◌, ◌≤◌, ◌⊎◌, inl, inr, Bool, true, false, cond, eqb, List, length, refl, sym, ◌∙◌, ap, subst, arith}
use Rattle.std.specs.Prelude.{◌==◌}
use Rattle.std.proofs.lemmas.Bool.{cases_Bool, cases_lt, eqb-false, eqb-true, or_cases}
use Rattle.tl_definitions.specs.declared.Kind.{Kind}
use Rattle.tl_definitions.specs.declared.Kind.TheVariants.{Square, Triangle}
use Rattle.tl_definitions.specs.declared.Corner.{Corner}
use Rattle.tl_definitions.specs.Lattice.{classes}
use Rattle.tl_definitions.specs.Region.{Region, is_inner}
use Rattle.tl_steps.specs.Stepping.{is_of_class}
use Rattle.tl_strings.specs.Strings.{row_of, slot_of, string_bit, word_place}
use Rattle.tl_strings.specs.Steps.{coin_bit, square_bit, triangle_bit}
use Rattle.tl_layout.specs.declared.layout.Layout.{Layout}
use Rattle.tl_layout.specs.Layouts.{size_of}
use Rattle.tl_packing.proofs.Stated.{inner-coin, numbered, square-bound, triangle-bound}
use Rattle.tl_packed.specs.declared.strings.Strings.{Strings}
use Rattle.tl_packed.specs.OfClasses.{AreOfLayout, of_class, third_size}
use Rattle.tl_string_sweep.specs.Sweeps.{AreInside}
use Rattle.tl_string_sweep.proofs.Inner.{free-inside, past-false}
use Rattle.tl_courses.specs.Courses.{AreRowsAfter, AreRowsStepped, Course, HasCoinsIn, IsCourseOf, after, bits_of, class_at, class_stepped, stepped, time_at}
use Rattle.tl_courses.proofs.Held.{bound-stays, class-within, first-bound, frame, free-of, low-of, others-stay, own-steps}

-- ---- rows that stay

pub after-other_class : (c : Course) (p class row slot : ℕ) → class ≢ class_at c.layout.kind p → after c (suc p) class row slot ≡ after c p class row slot
after-other_class c p class row slot other =
    others-stay c.layout.kind (class_at c.layout.kind p) (c.coin (time_at c.layout.kind c.from p) (class_at c.layout.kind p))
    (bits_of c.layout.height c.slots.free (class_at c.layout.kind p)) (after c p) class row slot other

class-below : (k : Kind) (p : ℕ) → class_at k p < classes k
class-below Square p = omega arith
class-below Triangle p = omega arith

pub after-not_free : (c : Course) (p row slot : ℕ) → ((class : ℕ) → class < classes c.layout.kind → bits_of c.layout.height c.slots.free class row slot ≡ false)
    → (class : ℕ) → after c p class row slot ≡ bits_of c.layout.height c.start class row slot
after-not_free c zero row slot bound class = refl
after-not_free c (suc p) row slot bound class = go (cases_Bool (class == k)) ∙ after-not_free c p row slot bound class
  where
    k : ℕ
    k = class_at c.layout.kind p

    coin : ℕ → ℕ → Bool
    coin = c.coin (time_at c.layout.kind c.from p) k

    free : ℕ → ℕ → Bool
    free = bits_of c.layout.height c.slots.free k

    go : ((class == k) ≡ true) ⊎ ((class == k) ≡ false) → class_stepped c.layout.kind k coin free (after c p) class row slot ≡ after c p class row slot
    go (inr e) = ap (λ (t : Bool). cond t (stepped c.layout.kind k coin free (after c p) row slot) (after c p class row slot)) e
    go (inl e) =
        ap (λ (t : Bool). cond t (stepped c.layout.kind k coin free (after c p) row slot) (after c p class row slot)) e
        ∙ (bound-stays c.layout.kind k coin free (after c p) row slot (bound k (class-below c.layout.kind p))
        ∙ ap (λ (j : ℕ). after c p j row slot) (sym (eqb-true class k e)))

-- the strings of a class have as many words as the layout
pub class-size : (l : Layout) (s : Strings) (class : ℕ) → AreOfLayout l s → class < classes l.kind → length (of_class s class) ≡ size_of l
class-size l s class size within = go l.kind refl class within
  where
    go : (kind : Kind) → l.kind ≡ kind → (class : ℕ) → class < classes kind → length (of_class s class) ≡ size_of l
    go kind e zero below = size.first
    go kind e (suc zero) below = size.second
    go Square e (suc (suc class)) below = absurd (omega (arith, below))
    go Triangle e (suc (suc zero)) below = size.third ∙ ap (λ (k : Kind). third_size k (size_of l)) e
    go Triangle e (suc (suc (suc class))) below = absurd (omega (arith, below))

pub bits-past : (l : Layout) (s : Strings) (class row slot : ℕ) → AreOfLayout l s → class < classes l.kind → size_of l ≤ word_place l.height row slot → bits_of l.height s class row slot ≡ false
bits-past l s class row slot size within past = past-false l.height (of_class s class) row slot (omega (arith, past, class-size l s class size within))

pub after-past : (R : Region) (bits : ℕ → ℕ → Bool) (c : Course) (p class row slot : ℕ) → IsCourseOf R bits c
    → class < classes c.layout.kind → size_of c.layout ≤ word_place c.layout.height row slot → after c p class row slot ≡ false
after-past R bits c p class row slot is within past =
    after-not_free c p row slot (λ k below. bits-past c.layout c.slots.free k row slot is.are_slots.free_size below past) class
    ∙ bits-past c.layout c.start class row slot is.size within past

-- ---- steps in some rows

module _ (R : Region) (bits : ℕ → ℕ → Bool) (c : Course) (is : IsCourseOf R bits c) (p first end : ℕ) (above : 1 ≤ first) (below : end < c.layout.height)
    (coins : List ℕ) (has : HasCoinsIn R c.layout.height c.layout.first first end (bits (time_at c.layout.kind c.from p)) coins) (old new : Strings)
    (before : AreRowsAfter c p (first - 1) (end + 1) old) (steps : AreRowsStepped c.layout c.slots (class_at c.layout.kind p) first end coins old new) where
  abbrev l : Layout
  l = c.layout

  abbrev k : ℕ
  k = class_at l.kind p

  abbrev time : ℕ
  time = time_at l.kind c.from p

  abbrev lows : List ℕ
  lows = of_class c.slots.lows k

  abbrev free : ℕ → ℕ → Bool
  free = bits_of l.height c.slots.free k

  k-within : k < classes R.kind
  k-within = class-within R bits c is p

  inside : AreInside l.height (of_class c.slots.free k)
  inside =
      free-inside R l is.of_region k lows (is.are_slots.lows.each k k-within) (of_class c.slots.free k) (is.are_slots.free k k-within)

  kind-below : (class : ℕ) → class < classes R.kind → class < classes l.kind
  kind-below class = subst (λ (j : Kind). class < classes j) (sym is.of_region.kind)

  -- the bits that the steps read
  read : (class row slot : ℕ) → class < classes l.kind → first ≤ row + 1 → row ≤ end → bits_of l.height old class row slot ≡ after c p class row slot
  read class row slot within upper lower = before class row slot within (omega (arith, upper)) (omega (arith, lower))

  -- the coin of a slot of an inner corner
  coin-at : (v : Corner) (shift : ℕ) → is_inner R v ≡ true → is_of_class R k v ≡ true → first ≤ row_of v → row_of v < end → shift ≤ 1
      → coin_bit l.height coins lows (row_of v) (slot_of R.kind l.first v + shift) ≡ c.coin time k (row_of v) (slot_of R.kind l.first v + shift)
  coin-at v shift inner of_class upper lower either =
      let (i, at) = numbered R v is.accepted inner in
      inner-coin R l.height l.first k is.accepted (frame R bits c is) lows (low-of R bits c is k k-within) coins (bits time i) v shift inner of_class (has i v at upper lower) either
      ∙ sym (is.coins time k k-within i shift v at of_class either)

  -- the coin of a free slot
  abbrev HasCoin : ℕ → ℕ → Type 0
  HasCoin row slot = coin_bit l.height coins lows row slot ≡ c.coin time k row slot

  low-coin : (row slot low shift : ℕ) → first ≤ row → row < end → shift ≤ 1 → slot ≡ low + shift → string_bit l.height lows row low ≡ true → HasCoin row slot
  low-coin row slot low shift upper lower either there is_low =
      let (v, inner, of_class, row_is, slot_is) = (low-of R bits c is k k-within).only row low (omega (arith, lower, below)) is_low in
      let place : slot_of R.kind l.first v + shift ≡ slot = omega (arith, slot_is, there) in
      subst (λ (r : ℕ). HasCoin r slot) row_is
      (subst (λ (s : ℕ). HasCoin (row_of v) s) place (coin-at v shift inner of_class (omega (arith, row_is, upper)) (omega (arith, row_is, lower)) either))

  coin-same : (row slot : ℕ) → first ≤ row → row < end → 64 ≤ slot → free row slot ≡ true → HasCoin row slot
  coin-same row slot upper lower later is_free =
      go (or_cases _ _ (sym (free-of R bits c is k k-within row slot (omega (arith, lower, below)) (omega (arith, later))) ∙ is_free))
    where
      go : (string_bit l.height lows row slot ≡ true) ⊎ (string_bit l.height lows row (slot - 1) ≡ true) → HasCoin row slot
      go (inl low) = low-coin row slot slot 0 upper lower (omega arith) (omega arith) low
      go (inr low) = low-coin row slot (slot - 1) 1 upper lower (omega arith) (omega (arith, later)) low

  -- ---- one slot

  abbrev now : ℕ → ℕ → ℕ → Bool
  now = after c p

  -- the bit that the steps of the class make of it
  abbrev made : Kind → ℕ → ℕ → Bool
  made kind row slot = stepped kind k (c.coin time k) free now row slot

  square-read : (row slot : ℕ) → l.kind ≡ Square → first ≤ row → row < end → 64 ≤ slot → bits_of l.height new k row slot ≡ made Square row slot
  square-read row slot kind upper lower later =
      let own = subst (λ (j : Kind). k < classes j) kind (kind-below k k-within) in
      let other : (k + 1) % 2 < classes l.kind = subst (λ (j : Kind). (k + 1) % 2 < classes j) (sym kind) (omega arith) in
      let here = read k row slot (kind-below k k-within) (omega (arith, upper)) (omega (arith, lower)) in
      let west = read ((k + 1) % 2) row (slot - 1) other (omega (arith, upper)) (omega (arith, lower)) in
      let east = read ((k + 1) % 2) row (slot + 1) other (omega (arith, upper)) (omega (arith, lower)) in
      let north = read ((k + 1) % 2) (row - 1) slot other (omega (arith, upper, above)) (omega (arith, lower)) in
      let south = read ((k + 1) % 2) (row + 1) slot other (omega (arith, upper)) (omega (arith, lower)) in
      (steps.squares kind inside).stepped row slot upper lower later
      ∙ ((λ i. square_bit (eqb k 1) (here i) (west i) (east i) (north i) (south i) (coin_bit l.height coins lows row slot) (free row slot))
      ∙ coin (cases_Bool (free row slot)))
    where
      bit_by : Bool → Bool
      bit_by coin =
          square_bit (eqb k 1) (now k row slot) (now ((k + 1) % 2) row (slot - 1)) (now ((k + 1) % 2) row (slot + 1))
          (now ((k + 1) % 2) (row - 1) slot) (now ((k + 1) % 2) (row + 1) slot) coin (free row slot)

      stays : (coin : Bool) → free row slot ≡ false → bit_by coin ≡ now k row slot
      stays coin bound =
          square-bound (eqb k 1) (now k row slot) (now ((k + 1) % 2) row (slot - 1)) (now ((k + 1) % 2) row (slot + 1))
          (now ((k + 1) % 2) (row - 1) slot) (now ((k + 1) % 2) (row + 1) slot) coin (free row slot) bound

      coin : (free row slot ≡ true) ⊎ (free row slot ≡ false) → bit_by (coin_bit l.height coins lows row slot) ≡ bit_by (c.coin time k row slot)
      coin (inl is_free) = ap bit_by (coin-same row slot upper lower later is_free)
      coin (inr bound) = stays (coin_bit l.height coins lows row slot) bound ∙ sym (stays (c.coin time k row slot) bound)

  triangle-read : (row slot : ℕ) → l.kind ≡ Triangle → first ≤ row → row < end → 64 ≤ slot → bits_of l.height new k row slot ≡ made Triangle row slot
  triangle-read row slot kind upper lower later =
      let next : (k + 1) % 3 < classes l.kind = subst (λ (j : Kind). (k + 1) % 3 < classes j) (sym kind) (omega arith) in
      let last : (k + 2) % 3 < classes l.kind = subst (λ (j : Kind). (k + 2) % 3 < classes j) (sym kind) (omega arith) in
      let here = read k row slot (kind-below k k-within) (omega (arith, upper)) (omega (arith, lower)) in
      let west = read ((k + 1) % 3) row (slot - 1) next (omega (arith, upper)) (omega (arith, lower)) in
      let north_east = read ((k + 1) % 3) (row - 1) slot next (omega (arith, upper, above)) (omega (arith, lower)) in
      let south_east = read ((k + 1) % 3) (row + 1) (slot + 1) next (omega (arith, upper)) (omega (arith, lower)) in
      let east = read ((k + 2) % 3) row (slot + 1) last (omega (arith, upper)) (omega (arith, lower)) in
      let north_west = read ((k + 2) % 3) (row - 1) (slot - 1) last (omega (arith, upper, above)) (omega (arith, lower)) in
      let south_west = read ((k + 2) % 3) (row + 1) slot last (omega (arith, upper)) (omega (arith, lower)) in
      (steps.triangles kind inside).stepped row slot upper lower later
      ∙ ((λ i. triangle_bit k (here i) (west i) (north_east i) (south_east i) (east i) (north_west i) (south_west i) (coin_bit l.height coins lows row slot) (free row slot))
      ∙ coin (cases_Bool (free row slot)))
    where
      bit_by : Bool → Bool
      bit_by coin =
          triangle_bit k (now k row slot)
          (now ((k + 1) % 3) row (slot - 1)) (now ((k + 1) % 3) (row - 1) slot) (now ((k + 1) % 3) (row + 1) (slot + 1))
          (now ((k + 2) % 3) row (slot + 1)) (now ((k + 2) % 3) (row - 1) (slot - 1)) (now ((k + 2) % 3) (row + 1) slot)
          coin (free row slot)

      stays : (coin : Bool) → free row slot ≡ false → bit_by coin ≡ now k row slot
      stays coin bound =
          triangle-bound k (now k row slot)
          (now ((k + 1) % 3) row (slot - 1)) (now ((k + 1) % 3) (row - 1) slot) (now ((k + 1) % 3) (row + 1) (slot + 1))
          (now ((k + 2) % 3) row (slot + 1)) (now ((k + 2) % 3) (row - 1) (slot - 1)) (now ((k + 2) % 3) (row + 1) slot)
          coin (free row slot) bound

      coin : (free row slot ≡ true) ⊎ (free row slot ≡ false) → bit_by (coin_bit l.height coins lows row slot) ≡ bit_by (c.coin time k row slot)
      coin (inl is_free) = ap bit_by (coin-same row slot upper lower later is_free)
      coin (inr bound) = stays (coin_bit l.height coins lows row slot) bound ∙ sym (stays (c.coin time k row slot) bound)

  later-made : (row slot : ℕ) → (kind : Kind) → l.kind ≡ kind → first ≤ row → row < end → 64 ≤ slot → bits_of l.height new k row slot ≡ made l.kind row slot
  later-made row slot Square kind upper lower later = square-read row slot kind upper lower later ∙ ap (λ (j : Kind). made j row slot) (sym kind)
  later-made row slot Triangle kind upper lower later = triangle-read row slot kind upper lower later ∙ ap (λ (j : Kind). made j row slot) (sym kind)

  first-kept : (row slot : ℕ) → (kind : Kind) → l.kind ≡ kind → first ≤ row → row < end → slot < 64 → bits_of l.height new k row slot ≡ bits_of l.height old k row slot
  first-kept row slot Square kind upper lower first_strip = (steps.squares kind inside).kept row slot upper lower first_strip
  first-kept row slot Triangle kind upper lower first_strip = (steps.triangles kind inside).kept row slot upper lower first_strip

  first-made : (row slot : ℕ) → first ≤ row → row < end → slot < 64 → bits_of l.height new k row slot ≡ made l.kind row slot
  first-made row slot upper lower first_strip =
      first-kept row slot l.kind refl upper lower first_strip
      ∙ (read k row slot (kind-below k k-within) (omega (arith, upper)) (omega (arith, lower))
      ∙ sym (bound-stays l.kind k (c.coin time k) free now row slot (first-bound R bits c is k row slot k-within (omega (arith, lower, below)) first_strip)))

  own-made : (row slot : ℕ) → first ≤ row → row < end → bits_of l.height new k row slot ≡ made l.kind row slot
  own-made row slot upper lower = go (cases_lt slot 64)
    where
      go : (slot < 64) ⊎ (64 ≤ slot) → bits_of l.height new k row slot ≡ made l.kind row slot
      go (inl first_strip) = first-made row slot upper lower first_strip
      go (inr later) = later-made row slot l.kind refl upper lower later

  below-3 : (kind : Kind) (class : ℕ) → class < classes kind → class < 3
  below-3 Square class within = omega (arith, within)
  below-3 Triangle class within = omega (arith, within)

  pub rows-after : AreRowsAfter c (suc p) first end new
  rows-after class row slot within upper lower = go (cases_Bool (class == k))
    where
      go : ((class == k) ≡ true) ⊎ ((class == k) ≡ false) → bits_of l.height new class row slot ≡ after c (suc p) class row slot
      go (inl e) =
          let same = eqb-true class k e in
          ap (λ (j : ℕ). bits_of l.height new j row slot) same
          ∙ (own-made row slot upper lower
          ∙ (sym (own-steps l.kind k (c.coin time k) free now row slot) ∙ ap (λ (j : ℕ). after c (suc p) j row slot) (sym same)))
      go (inr e) =
          let other = eqb-false class k e in
          ap (λ (words : List ℕ). string_bit l.height words row slot) (steps.others class (below-3 l.kind class within) other)
          ∙ (read class row slot within (omega (arith, upper)) (omega (arith, lower)) ∙ sym (after-other_class c p class row slot other))
