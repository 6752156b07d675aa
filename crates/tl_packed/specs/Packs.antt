-- Tilings in strings of bits.
use Rattle.std.specs.Prelude.{ℕ, ◌<◌, List, ℤ, IsTrue}
use Rattle.tl_definitions.specs.declared.Corner.{Corner}
use Rattle.tl_definitions.specs.Lattice.{classes}
use Rattle.tl_definitions.specs.Region.{Region}
use Rattle.tl_definitions.specs.Accepted.{Accepted}
use Rattle.tl_definitions.specs.Heights.{AreLawful}
use Rattle.tl_strings.specs.Strings.{string_bit}
use Rattle.tl_layout.specs.declared.layout.Layout.{Layout}
use Rattle.tl_layout.specs.Layouts.{IsLayoutOf}
use Rattle.tl_packing.specs.Packing.{HoldsBoth, HoldsMarks}
use Rattle.tl_pack.specs.Packs.{HasSlot}
use Rattle.tl_packed.specs.declared.strings.Strings.{Strings}
use Rattle.tl_packed.specs.OfClasses.{AreOfLayout, of_class}

-- The strings hold the marks of these lawful heights, and have bits at slots of corners alone.
pub record Packs (R : Region) (l : Layout) (s : Strings) (numbers : List ℤ) : Type 0 where
  pub accepted : ∥ Accepted R ∥₁
  pub layout : ∥ IsLayoutOf R l ∥₁
  pub size : AreOfLayout l s
  pub lawful : AreLawful R numbers
  pub holds : HoldsMarks R l.height l.first numbers (of_class s) 0
  pub only : (class row slot : ℕ) → class < classes R.kind → row < l.height
      → IsTrue (string_bit l.height (of_class s class) row slot) → ∥ ((v : Corner) × HasSlot R.kind l.first class row slot v) ∥₁

-- the strings of a tiling: there are such heights
abbrev pub IsPacked : Region → Layout → Strings → Type 0
IsPacked R l s = (numbers : List ℤ) × Packs R l s numbers

-- The region is accepted, and this is a layout of it.
pub record IsFramed (R : Region) (l : Layout) : Type 0 where
  pub accepted : Accepted R
  pub layout : IsLayoutOf R l

-- The strings hold the marks of both ends of a pair of lawful heights, those of the second end one slot on.
pub record HoldEnds (R : Region) (l : Layout) (s : Strings) (low high : List ℤ) : Type 0 where
  pub size : AreOfLayout l s
  pub low_lawful : AreLawful R low
  pub high_lawful : AreLawful R high
  pub holds : HoldsBoth R l.height l.first low high (of_class s)
