use Rattle.std.proofs.Common.{◌≡◌, ◌<◌, ◌++◌, ◌∷◌, [], get_or, length, ◌∙◌, arith, rules}
use Rattle.tl_layout.specs.Layouts.{bit_by, size_of, word_by}
use Rattle.tl_layout.specs.Coins.{IsPieceOf, Puts}
use Rattle.tl_layout.proofs.Shown.{AreGathered, gathered-all, gathered-first, gathered-joined, gathered-opened, one-piece, one-puts}
use Rattle.tl_layout.proofs.pieces.pieces_at.Goals as goal
use Rattle.tl_layout.proofs.pieces.pieces_at.Goals.{then-joins, else-joins+in_ok-push}

pub loop-number-init : goal.loop-number-init
loop-number-init c =
    let l = c.args.layout.now in
    let places = c.args.places.now in
    let p = c.of_one-current.result in
    let within : 0 < length places = search rules in
    let inside : p.place < size_of l = omega (arith, c.of_one-current.ensures.place, c.spot.ensures.inside) in
    let place : p.place ≡ word_by l (get_or places 0 0) = c.of_one-current.ensures.place ∙ c.spot.ensures.word in
    let is : IsPieceOf l places p = one-piece l places 0 c.spot.result.bit p within c.spot.result.bit_small inside place c.spot.ensures.bit c.of_one-current.ensures.source c.of_one-current.ensures.mask in
    let g = gathered-first l places c.new-pieces.result.items p c.new-pieces.ensures.items is in
    record { each = g.each; shown = g.shown }

pub loop-number-preserved : goal.loop-number-preserved
loop-number-preserved c =
    let l = c.args.layout.now in
    let places = c.args.places.now in
    let n = c.loop-number.number in
    let spot = c.spot-in-loop-number in
    let p = c.of_one-next.result in
    let within : n < length places = c.loop-number-test.true in
    let inside : p.place < size_of l = omega (arith, c.of_one-next.ensures.place, spot.ensures.inside) in
    let place : p.place ≡ word_by l (get_or places n 0) = c.of_one-next.ensures.place ∙ spot.ensures.word in
    let is : IsPieceOf l places p = one-piece l places n spot.result.bit p within spot.result.bit_small inside place spot.ensures.bit c.of_one-next.ensures.source c.of_one-next.ensures.mask in
    let puts : Puts (word_by l (get_or places n 0)) (bit_by l (get_or places n 0)) p = one-puts l places n spot.result.bit p place spot.ensures.bit c.of_one-next.ensures.mask in
    let before : AreGathered l places n (c.loop-number.pieces.items ++ c.loop-number.current ∷ []) = record { each = c.loop-number.invariant.each; shown = c.loop-number.invariant.shown } in
    elim c.if-joins.branch [
      | then-joins w ↦
          let same = c.joins.ensures w.if-joins.true in
          let list : c.if-joins.pieces.items ++ c.if-joins.current ∷ [] ≡ c.loop-number.pieces.items ++ w.with-current.result ∷ [] = cc (w.pieces-is, w.current-is) in
          let g = gathered-joined l places n c.loop-number.pieces.items (c.if-joins.pieces.items ++ c.if-joins.current ∷ []) c.loop-number.current p w.with-current.result before is puts
          same.0 same.1 same.2 w.with-current.ensures.place w.with-current.ensures.from w.with-current.ensures.shift w.with-current.ensures.mask list in
          record { each = g.each; shown = g.shown }
      | else-joins+in_ok-push w ↦
          let list : c.if-joins.pieces.items ++ c.if-joins.current ∷ [] ≡ (c.loop-number.pieces.items ++ c.loop-number.current ∷ []) ++ p ∷ [] = cc (w.pieces-is, w.current-is, w.in_ok-push.ensures.items) in
          let g = gathered-opened l places n (c.loop-number.pieces.items ++ c.loop-number.current ∷ []) (c.if-joins.pieces.items ++ c.if-joins.current ∷ []) p before is puts list in
          record { each = g.each; shown = g.shown }
    ]

pub returns : goal.returns
returns c =
    let l = c.args.layout.now in
    let places = c.args.places.now in
    let before : AreGathered l places c.loop-number.number (c.loop-number.pieces.items ++ c.loop-number.current ∷ []) = record { each = c.loop-number.invariant.each; shown = c.loop-number.invariant.shown } in
    gathered-all l places c.loop-number.number (c.loop-number.pieces.items ++ c.loop-number.current ∷ []) c.push-2.new.self.items before c.in_ok-push-2.ensures.items (omega arith)
