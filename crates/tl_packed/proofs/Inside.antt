-- The slots of corners: inside the strings of a layout, and no corner has the slot beside one of its class.
use Rattle.std.proofs.Common.{◌≡◌, ℕ, ◌+◌, ◌*◌, ◌/◌, ◌<◌, ◌≤◌, ◌⊎◌, inl, inr, true, arith}
use Rattle.std.proofs.lemmas.Bool.{cases_lt}
use Rattle.std.proofs.Math.Nat.{mul-le-mul}
use Rattle.tl_definitions.specs.declared.Corner.{Corner}
use Rattle.tl_definitions.specs.Lattice.{class_of}
use Rattle.tl_definitions.specs.Region.{Region, is_corner_of}
use Rattle.tl_closing.proofs.Stated.{corner-within}
use Rattle.tl_strings.specs.Strings.{column, row_of, slot_of, word_place}
use Rattle.tl_layout.specs.declared.layout.Layout.{Layout}
use Rattle.tl_layout.specs.Layouts.{IsLayoutOf, size_of}
use Rattle.tl_packing.specs.Packing.{IsReached}
use Rattle.tl_packing.proofs.Stated.{one-corner, region-corner}
use Rattle.tl_pack.specs.Packs.{HasSlot}

-- a strip before the last begins two strips before the end
pub two-more : (strip strips height row : ℕ) → strip * height + row + height + 1 < strips * height → strip + 2 ≤ strips
two-more strip strips height row h = go (cases_lt (strip + 1) strips)
  where
    go : (strip + 1 < strips) ⊎ (strips ≤ strip + 1) → strip + 2 ≤ strips
    go (inl l) = omega (arith, l)
    go (inr few) =
        let same : height ≤ height = omega arith in
        absurd (omega (arith, mul-le-mul few same, h))

in-strips : (strip strips height row : ℕ) → strip < strips → row < height → strip * height + row < strips * height
in-strips strip strips height row h within =
    let same : height ≤ height = omega arith in
    let more : strip + 1 ≤ strips = omega (arith, h) in
    omega (arith, mul-le-mul more same, within)

module _ (R : Region) (l : Layout) (layout : IsLayoutOf R l) where
  pub row-inside : (v : Corner) → is_corner_of R v ≡ true → row_of v < l.height
  row-inside v of_region = omega (arith, layout.height, (corner-within R v layout.placed of_region).0)

  -- the slot of a corner and the one after it
  pub slot-inside : (v : Corner) (slot : ℕ) → is_corner_of R v ≡ true → IsReached R v → slot ≤ slot_of R.kind l.first v + 1 → word_place l.height (row_of v) slot < size_of l
  slot-inside v slot of_region (w, inner, reached) near =
      let stands = layout.stands w inner in
      let two = two-more ((slot_of R.kind l.first w + 1) / 64) l.strips l.height (row_of w) stands.inside in
      in-strips (slot / 64) l.strips l.height (row_of v) (omega (arith, two, near, reached, stands.column)) (row-inside v of_region)

  -- a corner of the class and the row of another, whose slot is at most one from that one's, is that one
  pub slot-alone : (v w : Corner) (slot : ℕ) → is_corner_of R v ≡ true → l.first ≤ column R.kind v + 1 → HasSlot R.kind l.first (class_of R.kind v) (row_of v) slot w
      → slot ≤ slot_of R.kind l.first v + 1 → slot_of R.kind l.first v ≤ slot + 1 → w ≡ v
  slot-alone v w slot of_region near has upper lower =
      one-corner R.kind w v has.is_one (region-corner R v of_region) has.of_class (omega (arith, has.row_is))
      (omega (arith, has.slot_is, has.not_before, near, upper, lower)) (omega (arith, has.slot_is, has.not_before, near, upper, lower))
