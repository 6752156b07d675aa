use Rattle.std.proofs.Common.{◌-◌, drop, sym, ◌∙◌, arith}
use Rattle.std.proofs.lemmas.List.{length-drop}
use Rattle.tl_definitions.specs.Region.{is_step as is_step_of}
use Rattle.tl_obstruction.proofs.Gaps.{linked-short}
use Rattle.tl_obstruction.proofs.checking.is_directed.Goals as goal

pub returns : goal.returns
returns c =
    sym (c.loop-k.invariant ∙ linked-short (is_step_of c.args.region.now) (drop (c.loop-k.k - 1) c.args.path.now)
    (omega (arith, length-drop (c.loop-k.k - 1) c.args.path.now, c.loop-k-test.false)))
