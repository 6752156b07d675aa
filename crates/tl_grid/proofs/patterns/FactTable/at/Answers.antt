use Rattle.std.proofs.Common.{◌≡◌, ◌+◌, ◌*◌, ◌/◌, ◌%◌, ap, ◌∙◌, arith, get_or, List}
use Rattle.std.proofs.lemmas.List.FromFn.{get_or-map-range_with_len}
use Rattle.tl_grid.specs.Patterns.{facts_by}
use Rattle.tl_grid.specs.declared.patterns.RingFacts.{RingFacts}
use Rattle.tl_grid.proofs.patterns.FactTable.at.Goals as goal

pub returns : goal.returns
returns c =
    let i = c.args.parity * 64 + c.args.pattern in
    let parity : i / 64 ≡ c.args.parity = omega (arith, c.requires.pattern) in
    let pattern : i % 64 ≡ c.args.pattern = omega (arith, c.requires.pattern) in
    ap (λ (l : List RingFacts). get_or l i _) c.requires.table
    ∙ get_or-map-range_with_len (λ j. facts_by c.args.kind (j / 64) (j % 64)) 0 128 i i _ (omega (arith, c.requires.parity, c.requires.pattern)) (omega arith)
    ∙ (λ j. facts_by c.args.kind (parity j) (pattern j))
