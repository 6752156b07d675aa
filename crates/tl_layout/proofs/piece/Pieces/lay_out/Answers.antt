use Rattle.std.proofs.Common.{List, subst}
use Rattle.tl_layout.specs.declared.piece.Piece.{Piece}
use Rattle.tl_layout.specs.Coins.{ArePut}
use Rattle.tl_layout.proofs.Laid.{laid-out}
use Rattle.tl_layout.proofs.piece.Pieces.lay_out.Goals as goal

pub returns : goal.returns
returns c R l are =
    laid-out R l c.args.self.now c.args.raw.now c.put.new.words are
    (subst (λ (pieces : List Piece). ArePut c.args.raw.now pieces pieces c.put.new.words) c.as_slice.ensures.value c.put.ensures)
