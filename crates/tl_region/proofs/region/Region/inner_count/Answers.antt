use Rattle.std.proofs.Common.{◌≡◌, ◌+◌, arith, length, ap}
use Rattle.std.proofs.lemmas.List.{length-map}
use Rattle.tl_definitions.specs.Region.{Region, inner_corners}
use Rattle.tl_grid.specs.Survey.{place_in, inner_places}
use Rattle.tl_grid.proofs.InnerLemmas.{few_inner}
use Rattle.tl_region.proofs.region.Region.inner_count.Goals as goal

pub overflow_cast-result : goal.overflow_cast-result
overflow_cast-result c =
    omega (arith, c.len.ensures, c.self.inside.inner.ok.0, ap length c.self.invariant.1, few_inner c.self.inside.grid c.self.invariant.0)

pub returns-clause-count : goal.returns-clause-count
returns-clause-count c =
    let s = c.self.inside.grid in
    let count : length (inner_places s) ≡ length (inner_corners s) = length-map (inner_corners s) (place_in (s.columns + 2)) in
    omega (arith, c.len.ensures, c.self.inside.inner.ok.0, ap length c.self.invariant.1, count, ap (λ (R : Region). length (inner_corners R)) c.self.view_is)
