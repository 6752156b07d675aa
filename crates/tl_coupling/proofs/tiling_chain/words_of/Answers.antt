use Rattle.std.proofs.Common.{◌≤◌, length, arith}
use Rattle.tl_definitions.specs.Limits.{most_corners}
use Rattle.tl_definitions.specs.Region.{inner_corners}
use Rattle.tl_coupling.proofs.FewWords.{inner-few}
use Rattle.tl_coupling.proofs.tiling_chain.words_of.Goals as goal

pub returns-clause-few : goal.returns-clause-few
returns-clause-few c =
    let few : length (inner_corners c.region.result.now) ≤ most_corners =
    inner-few c.region.result.now c.inner_count.ensures.is_grid.rows_within c.inner_count.ensures.is_grid.columns_within in
    omega (arith, c.inner_count.ensures.count)
