use Rattle.std.proofs.Common.{rules, ◌≡◌, ◌+◌, ℕ, replicate, sym, ap, subst, ◌∙◌}
use Rattle.atomic_table.specs.Table.{opening}
use Rattle.std.specs.Prelude.{All}
use Rattle.tl_board.specs.Rule.{Keeps}
use Rattle.tl_board.specs.Hands.{fresh_hands}
use Rattle.tl_board.proofs.Opens.{opens}
use Rattle.tl_board.proofs.board.Board.open.Goals as goal

pub new-requires : goal.new-requires
new-requires g c = let job_of = g.P.Piece.job in let ps = c.args.blanks.items in let job = job_of c.of.result.value in let n : ℕ = c.len.result in
    let same : job ≡ c.requires.job.0 = ap job_of (c.of.ensures ∙ c.index.ensures) ∙ c.requires.job.1 0 _ c.requires.count.0 in
    let all : All (λ p. job_of p ≡ job) ps = λ k p near. c.requires.job.1 k p near ∙ sym same in
    let words : c.as_slice.result.now ≡ replicate (n + 1) 0 = search rules in
    subst (λ xs. Keeps job_of g.P.Piece.filled_for job n c.args.callers (opening c.as_slice.result.now xs (fresh_hands job n c.args.callers))) (sym c.in_ok-slots.ensures) (opens job n c.args.callers job_of g.P.Piece.filled_for c.as_slice.result.now ps words (search rules) all)
