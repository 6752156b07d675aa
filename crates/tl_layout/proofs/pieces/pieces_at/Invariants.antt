use Rattle.std.proofs.Common.{◌++◌, ◌∷◌, [], All}
use Rattle.tl_layout.specs.Coins.{AreShown, IsPieceOf}
use Rattle.tl_layout.proofs.pieces.pieces_at.Given as goal

abbrev pub invariant-loop-number : goal.invariant-loop-number
invariant-loop-number l = record {
  each : All (IsPieceOf l.layout l.places) (l.pieces.items ++ l.current ∷ []);
  shown : AreShown l.layout l.places l.number (l.pieces.items ++ l.current ∷ []);
}
