use Rattle.std.proofs.Common.{◌<◌, length, rules}
use Rattle.tl_layout.proofs.Puts.{put-more}
use Rattle.tl_layout.proofs.cutting.put.Goals as goal

pub loop-piece-preserved : goal.loop-piece-preserved
loop-piece-preserved c =
    let p = c.piece-item.result in
    let inside : p.place < length c.loop-piece.words = search rules in
    put-more c.args.raw.now c.args.pieces.now c.loop-piece.words c.loop-piece.piece-index c.cut-bits.result c.mixed.result p c.piece-item.is c.loop-piece-test.true inside c.cut-bits.ensures c.mixed.ensures
    c.loop-piece.invariant
