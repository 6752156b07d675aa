use Rattle.std.proofs.Common.{◌≡◌, ℕ, ◌-◌, ◌<◌, length, get_or, sym, subst, arith}
use Rattle.std.proofs.Math.ListN.{length-set}
use Rattle.tl_band.specs.Bands.{IsBandAt}
use Rattle.tl_band.specs.Edges.{IsSideAt}
use Rattle.tl_crew.proofs.Begun.{put-at}
use Rattle.tl_crew.proofs.share.begin_bands.Goals as goal

pub begin-requires-clause-upper : goal.begin-requires-clause-upper
begin-requires-clause-upper g c = c.in_ok-upper.ensures.upper _

pub begin-requires-clause-lower : goal.begin-requires-clause-lower
begin-requires-clause-lower g c =
    let course = g.S.Sweeping.course c.args.stretch.now in
    let (first, end, are) = c.requires.bands in
    let old = c.args.bands.now in
    let new = c.begin_upper.new.bands in
    let d = c.index-bands-last.result in
    let same = c.begin_upper.ensures.rows in
    let last : length old - 1 ≡ length new - 1 = omega (arith, same.count) in
    let rows = same.each (length old - 1) d (omega (arith, are.stacked.some)) in
    subst (λ (n : ℕ). IsSideAt course (get_or new n d).lower.own (get_or new n d).lower.beside 0 c.args.below) last
    (subst (λ (n : ℕ). IsSideAt course (get_or new (length old - 1) d).lower.own n 0 c.args.below) (sym rows.lower_beside)
    (subst (λ (n : ℕ). IsSideAt course n (get_or old (length old - 1) d).lower.beside 0 c.args.below) (sym rows.lower_own) (c.requires.below d)))

pub returns-clause-at : goal.returns-clause-at
returns-clause-at g c k d within =
    let course = g.S.Sweeping.course c.args.stretch.now in
    let (first, end, are) = c.requires.bands in
    let bands = c.begin_upper.new.bands in
    let some : 0 < length bands = omega (arith, are.stacked.some, c.begin_upper.ensures.rows.count) in
    put-at (IsBandAt course) bands (length bands - 1) c.begin.new.self (omega (arith, some)) c.begin.ensures.at
    (λ i e before. c.in_ok-upper.ensures.at i e (omega (arith, before)))
    k d (omega (arith, within, length-set bands (length bands - 1) c.begin.new.self))
