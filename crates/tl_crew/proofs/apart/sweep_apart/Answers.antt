use Rattle.std.proofs.Common.{rules, ◌≡◌, length, arith}
use Rattle.tl_crew.proofs.Stacked.{shares-same}
use Rattle.tl_crew.proofs.apart.sweep_apart.Goals as goal

pub returns-clause-shares : goal.returns-clause-shares
returns-clause-shares g c =
    let count : length c.for_each_mut.new.s ≡ length c.args.hands.now = search rules in
    shares-same (λ hand. hand.share) (g.S.Sweeping.course c.args.stretch.now).layout c.args.hands.now c.for_each_mut.new.s c.requires.shares count
    (λ j d within. let e = (c.for_each_mut.ensures j d within).1 in search (rules, e.call, e.left, e.argument_is))
    (λ j d within. let e = (c.for_each_mut.ensures j d within).1 in search (rules, e.call, e.left, e.argument_is))
    (λ j d within. let e = (c.for_each_mut.ensures j d (omega (arith, within, count))).1 in search (rules, e.call, e.left, e.argument_is))
