use Rattle.std.proofs.Common.{ap}
use Rattle.tl_height.specs.HeightFunction.{HeightFunction}
use Rattle.tl_flip.proofs.Approaches.{advanced-down, advanced-up}
use Rattle.tl_flip.proofs.approach.advance.Goals as goal
use Rattle.tl_flip.proofs.approach.advance.Goals.{in-Up, in-Down}

pub returns-clause-approach : goal.returns-clause-approach
returns-clause-approach c =
    elim c.match-way.branch [
      | in-Up w ↦ advanced-up c.args.way c.args.target.now.region c.args.here.now.region c.args.target.now.numbers c.args.here.now.numbers c.match-way.here.numbers w.raise.new.self.numbers c.args.corner c.args.path.now.items c.push.new.self.items c.requires.two c.requires.inner c.requires.short c.requires.free c.requires.region (ap (λ (f : HeightFunction). f.numbers) w.here-is) c.in_ok-push.ensures.items w.in-Up.is w.raise.ensures.raised
      | in-Down w ↦ advanced-down c.args.way c.args.target.now.region c.args.here.now.region c.args.target.now.numbers c.args.here.now.numbers c.match-way.here.numbers w.lower.new.self.numbers c.args.corner c.args.path.now.items c.push.new.self.items c.requires.two c.requires.inner c.requires.short c.requires.free c.requires.region (ap (λ (f : HeightFunction). f.numbers) w.here-is) c.in_ok-push.ensures.items w.in-Down.is w.lower.ensures.lowered
    ]
