use Rattle.std.proofs.Common.{ℕ, List, All, sym, subst}
use Rattle.tl_layout.specs.Layouts.{StandsBy}
use Rattle.tl_layout.proofs.Stood.{all-stand}
use Rattle.tl_layout.proofs.piece.Pieces.of.Goals as goal

pub pieces_at-requires : goal.pieces_at-requires
pieces_at-requires c =
    subst (λ (places : List ℕ). All (StandsBy c.args.layout.now) places) (sym c.inner_places-places.ensures.places) (all-stand c.args.region.now c.args.layout.now c.requires)
