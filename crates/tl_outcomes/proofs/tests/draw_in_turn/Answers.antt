use Rattle.std.proofs.Common.{◌≤◌, sym, ◌∙◌, subst}
use Rattle.tl_definitions.specs.Region.{Region}
use Rattle.tl_extreme.specs.Verdicts.{AreBottomHeights}
use Rattle.tl_text.specs.declared.SampleJob.{SampleJob}
use Rattle.tl_outcomes.specs.declared.draw_job.DrawJob.{DrawJob}
use Rattle.tl_outcomes.proofs.tests.draw_in_turn.Goals as goal

pub loop-number-init : goal.loop-number-init
loop-number-init c = record {
  region = c.in_ok-drawer.ensures.region;
  bottom = subst (AreBottomHeights c.args.low.now.region) (sym c.in_ok-drawer.ensures.bottom) c.requires.bottom;
}

pub fill-requires : goal.fill-requires
fill-requires c =
    let same = c.in_ok-blank.ensures.region ∙ c.region.ensures.region in
    record {
      serves = (
        c.loop-number.invariant.region ∙ sym same,
        subst (λ (R : Region). AreBottomHeights R c.loop-number.drawer.bottom.now) (sym same) c.loop-number.invariant.bottom,
        subst (λ (job : SampleJob). job.bound ≤ 30) (sym c.in_ok-blank.ensures.job) c.requires.bound,
        tt,
      );
    }

pub loop-number-preserved : goal.loop-number-preserved
loop-number-preserved c =
    let draw : DrawJob = record { region = c.args.low.now.region; job = c.args.job.now; is_ranked = c.args.is_ranked } in
    let serves = c.fill.ensures.serves draw (c.loop-number.invariant.region, c.loop-number.invariant.bottom, c.requires.bound, tt) in
    record { region = serves.0; bottom = serves.1 }
