use Rattle.std.proofs.Common.{◌≡◌, ℕ, ◌-◌, get_or, sym, subst, arith}
use Rattle.tl_band.specs.Edges.{IsSideAt}
use Rattle.tl_crew.proofs.share.Share.begin.Goals as goal

pub begin_bands-requires-clause-above : goal.begin_bands-requires-clause-above
begin_bands-requires-clause-above g c d =
    let course = g.S.Sweeping.course c.args.stretch.now in
    let above = c.args.above in
    let share = c.requires.share in
    let bands = c.args.self.now.bands.items in
    let first = share.stacked.begins d in
    let one = share.each 0 d share.stacked.some in
    let row : c.args.self.now.first - 1 ≡ (get_or bands 0 d).upper.beside = omega (arith, first, one.above_first) in
    subst (λ xs. IsSideAt course (get_or xs 0 d).upper.own (get_or xs 0 d).upper.beside 0 above) (sym c.deref_mut.ensures.value)
    (subst (λ (n : ℕ). IsSideAt course n (get_or bands 0 d).upper.beside 0 above) (sym first)
    (subst (λ (n : ℕ). IsSideAt course c.args.self.now.first n 0 above) row c.requires.above))
