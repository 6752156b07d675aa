-- The step of one class, for the marks of both ends of a pair.
use Rattle.std.proofs.Common.{◌≡◌, ℕ, zero, suc, ◌+◌, ◌%◌, ◌<◌, ◌≤◌, Bool, cond, eqb, List, sym, ◌∙◌, ap, arith, ℤ}
use Rattle.std.specs.Prelude.{◌==◌, if◌then◌else◌}
use Rattle.std.proofs.lemmas.Bool.{ne_eqb}
use Rattle.tl_definitions.specs.declared.Kind.{Kind}
use Rattle.tl_definitions.specs.declared.Kind.TheVariants.{Square, Triangle}
use Rattle.tl_definitions.specs.declared.Corner.{Corner}
use Rattle.tl_definitions.specs.Lattice.{class_of}
use Rattle.tl_definitions.specs.Region.{Region}
use Rattle.tl_definitions.specs.Accepted.{Accepted}
use Rattle.tl_definitions.specs.Heights.{AreLawful}
use Rattle.tl_steps.specs.Stepping.{AreSwept, is_of_class}
use Rattle.tl_steps.proofs.Stated.{class-lawful}
use Rattle.tl_strings.specs.Strings.{row_of, slot_of, string_bit}
use Rattle.tl_packing.specs.Packing.{AreFreeSlots, AreLowSlots, AreSameBut, AreSteppedSquares, AreSteppedTriangles, HasCoins, HoldsBoth, HoldsMarks, IsFrame}
use Rattle.tl_packing.proofs.Stated.{squares-held, triangles-held}
use Rattle.tl_coupling.specs.Carried.{class_swept}
use Rattle.tl_coupling.specs.SweptNumbers.{class_swept-swept}

-- the strings, with these words for a class
abbrev pub with_class : ℕ → List ℕ → (ℕ → List ℕ) → ℕ → List ℕ
with_class k words strings class = if class == k then words else strings class

-- the strings of the classes 0, 1 and 2 are the same
pub record AreSame (strings others : ℕ → List ℕ) : Type 0 where
  pub first : strings 0 ≡ others 0
  pub second : strings 1 ≡ others 1
  pub third : strings 2 ≡ others 2

same-class : (strings others : ℕ → List ℕ) → AreSame strings others → (class : ℕ) → class < 3 → strings class ≡ others class
same-class strings others same zero below = same.first
same-class strings others same (suc zero) below = same.second
same-class strings others same (suc (suc zero)) below = same.third
same-class strings others same (suc (suc (suc n))) below = absurd (omega arith)

class-below : (k : Kind) (v : Corner) → class_of k v < 3
class-below Square v = omega arith
class-below Triangle v = omega arith

with-same_but : (k : ℕ) (words : List ℕ) (strings : ℕ → List ℕ) → AreSameBut k (with_class k words strings) strings
with-same_but k words strings class other = sym (ap (λ (t : Bool). cond t words (strings class)) (ne_eqb class k other))

-- Lawful heights of both ends, whose marks the strings hold.
pub record AreEnds (R : Region) (height first : ℕ) (strings : ℕ → List ℕ) (low high : List ℤ) : Type 0 where
  pub low_lawful : AreLawful R low
  pub high_lawful : AreLawful R high
  pub holds : HoldsBoth R height first low high strings

module _ (R : Region) (height first : ℕ) (accepted : Accepted R) (frame : IsFrame R height first) (bits : ℕ → Bool) (coins : List ℕ) (has : HasCoins R height first bits coins)
    (k : ℕ) (lows free : List ℕ) (low_slots : AreLowSlots R height first k lows) (free_slots : AreFreeSlots height lows free)
    (words : List ℕ) (old new : ℕ → List ℕ) (same : AreSame old (with_class k words new)) where
  others-held : (numbers : List ℤ) (shift : ℕ) → HoldsMarks R height first numbers old shift → HoldsMarks R height first numbers (with_class k words new) shift
  others-held numbers shift holds v of_region near reached =
      ap (λ (s : List ℕ). string_bit height s (row_of v) (slot_of R.kind first v + shift)) (sym (same-class old (with_class k words new) same (class_of R.kind v) (class-below R.kind v)))
      ∙ holds v of_region near reached

  swept-of : (numbers : List ℤ) → AreLawful R numbers → AreSwept R numbers (class_swept R bits k numbers) bits (is_of_class R k)
  swept-of numbers lawful = class_swept-swept R bits k numbers accepted.placed lawful.heights

  lawful-after : (numbers : List ℤ) → AreLawful R numbers → AreLawful R (class_swept R bits k numbers)
  lawful-after numbers lawful = class-lawful R numbers (class_swept R bits k numbers) accepted lawful bits k (swept-of numbers lawful)

  ends-after : ((numbers : List ℤ) (shift : ℕ) → shift ≤ 1 → AreLawful R numbers → HoldsMarks R height first numbers (with_class k words new) shift
      → HoldsMarks R height first (class_swept R bits k numbers) new shift)
      → (low high : List ℤ) → AreEnds R height first old low high → AreEnds R height first new (class_swept R bits k low) (class_swept R bits k high)
  ends-after held low high ends = record {
    low_lawful = lawful-after low ends.low_lawful;
    high_lawful = lawful-after high ends.high_lawful;
    holds = record {
      low_end = held low 0 (omega arith) ends.low_lawful (others-held low 0 ends.holds.low_end);
      high_end = held high 1 (omega arith) ends.high_lawful (others-held high 1 ends.holds.high_end);
    };
  }

  pub squares-class : R.kind ≡ Square → AreSteppedSquares height (with_class k words new ((k + 1) % 2)) coins lows free (eqb k 1) (with_class k words new k) (new k)
      → (low high : List ℤ) → AreEnds R height first old low high → AreEnds R height first new (class_swept R bits k low) (class_swept R bits k high)
  squares-class kind stepped =
      ends-after (λ numbers shift l lawful holds.
      squares-held R height first k shift accepted frame numbers (class_swept R bits k numbers) bits lawful (swept-of numbers lawful) (with_class k words new) new (with-same_but k words new) holds
      coins lows free has low_slots free_slots l kind stepped)

  pub triangles-class : R.kind ≡ Triangle
      → AreSteppedTriangles height k (with_class k words new ((k + 1) % 3)) (with_class k words new ((k + 2) % 3)) coins lows free (with_class k words new k) (new k)
      → (low high : List ℤ) → AreEnds R height first old low high → AreEnds R height first new (class_swept R bits k low) (class_swept R bits k high)
  triangles-class kind stepped =
      ends-after (λ numbers shift l lawful holds.
      triangles-held R height first k shift accepted frame numbers (class_swept R bits k numbers) bits lawful (swept-of numbers lawful) (with_class k words new) new (with-same_but k words new) holds
      coins lows free has low_slots free_slots l kind stepped)
