use Rattle.std.proofs.Common.{◌≡◌, true, rules, tests, ap, ◌∙◌}
use Rattle.std.specs.List.{list_all}
use Rattle.std.proofs.lemmas.Iterator.{YieldsList-from_slice}
use Rattle.std.proofs.lemmas.Iterator.Search.{all_from_yields_List}
use Rattle.tl_definitions.specs.Darts.{darts, left_cell}
use Rattle.tl_definitions.specs.Lattice.{is_corner}
use Rattle.tl_definitions.specs.Region.{has_at}
use Rattle.tl_grid.proofs.PatternLemmas.{ring-darts}
use Rattle.tl_grid.proofs.inner.is_inner.Goals as goal

pub returns-then-is_corner : goal.returns-then-is_corner
returns-then-is_corner c =
    let R = c.args.grid.now in
    let v = c.args.corner in
    let corner : is_corner R.kind v ≡ true = cc in
    rw corner
    (all_from_yields_List (λ g. has_at R (left_cell v g)) _ _ _ c.all.ensures.ran (YieldsList-from_slice c.darts.result.now c.iter.ensures.rest) (λ x b q k. search (rules, tests))
    ∙ ap (list_all (λ g. has_at R (left_cell v g))) (c.darts.ensures ∙ ap darts c.kind-then-is_corner.ensures.kind) ∙ ring-darts R v R.kind)
