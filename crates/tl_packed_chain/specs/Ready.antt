-- What sweeps of a region in strings of bits stand on.
use Rattle.tl_definitions.specs.Region.{Region}
use Rattle.tl_definitions.specs.Accepted.{Accepted}
use Rattle.tl_layout.specs.declared.layout.Layout.{Layout}
use Rattle.tl_layout.specs.declared.piece.Pieces.{Pieces}
use Rattle.tl_layout.specs.Layouts.{IsLayoutOf}
use Rattle.tl_layout.specs.Coins.{ArePiecesOf}
use Rattle.tl_string_sweep.specs.declared.slots.Slots.{Slots}
use Rattle.tl_string_sweep.specs.Slots.{AreSlots}

-- A layout of an accepted region, with the slots and the pieces of its inner corners.
pub record IsReady (R : Region) (l : Layout) (slots : Slots) (pieces : Pieces) : Type 0 where
  pub is_accepted : Accepted R
  pub of_region : IsLayoutOf R l
  pub are_slots : AreSlots R l slots
  pub are_pieces : ArePiecesOf R l pieces
