use Rattle.std.proofs.Common.{◌≡◌}
use Rattle.tl_extreme.specs.Verdicts.{AreBottomHeights}
use Rattle.tl_outcomes.specs.Outcomes.{draw_of, EntriesOf}
use Rattle.tl_run.specs.Statuses.{code_of}
use Rattle.tl_run.proofs.EntryLemmas.{AreGathered}
use Rattle.tl_run.proofs.draws.write_in_turn.Given as goal

abbrev pub invariant-loop-number : goal.invariant-loop-number
invariant-loop-number g l = record {
  same : draw_of l.outcome ≡ draw_of l.fn.blank;
  region : (g.E.Sampling.drawn l.drawer.sampler).region ≡ l.fn.blank.region.now;
  bottom : AreBottomHeights l.fn.blank.region.now l.drawer.bottom.now;
  ready : g.E.Sampling.can_draw l.drawer.sampler;
  gathered : AreGathered (EntriesOf (draw_of l.fn.blank)) l.head l.number (code_of l.status) l.page (g.K.Sink.state l.fn.sink) (g.K.Sink.state l.sink);
}
