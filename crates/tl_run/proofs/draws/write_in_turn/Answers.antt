use Rattle.std.proofs.Common.{◌≡◌, ℕ, ◌+◌, ◌≤◌, List, ◌++◌, refl, sym, ◌∙◌, subst, arith}
use Rattle.tl_extreme.specs.Verdicts.{AreBottomHeights}
use Rattle.tl_outcomes.proofs.Stated.{some-of}
use Rattle.tl_outcomes.specs.declared.draw_job.DrawJob.{DrawJob}
use Rattle.tl_outcomes.specs.Entries.{Entry}
use Rattle.tl_outcomes.specs.Outcomes.{draw_of, EntriesOf, entry_of}
use Rattle.tl_run.specs.Pages.{Gathers}
use Rattle.tl_run.specs.Statuses.{code_of}
use Rattle.tl_run.specs.Writing.{Cuts}
use Rattle.tl_run.proofs.EntryLemmas.{AreGathered, none-gathered, one-gathered, all-written, last-cut, head-cut, entry-cut, entry_of-late}
use Rattle.tl_run.proofs.draws.write_in_turn.Goals as goal

pub returns-in_default : goal.returns-in_default
returns-in_default g c =
    let draw = draw_of c.args.blank in
    let head = c.args.head.now in
    let start = g.K.Sink.state c.args.sink.now in
    let end = g.K.Sink.state c.put.new.sink in
    head-cut (EntriesOf draw) head c.args.count (some-of draw c.args.drawer.now.bottom.now c.requires.bottom c.requires.accepted) start end
    (subst (λ (l : List ℕ). Cuts (l ++ head) start end) c.new-page.ensures c.in_default.ensures.cut)

pub loop-number-init : goal.loop-number-init
loop-number-init g c =
    let head = c.args.head.now in
    let start = g.K.Sink.state c.args.sink.now in
    let end = g.K.Sink.state c.put.new.sink in
    record {
      same = refl;
      region = c.requires.region;
      bottom = c.requires.bottom;
      ready = c.requires.ready;
      gathered =
          none-gathered (EntriesOf (draw_of c.args.blank)) head c.put.new.self start end
          (subst (λ (l : List ℕ). Gathers l head c.put.new.self start end) c.new-page.ensures c.in-Ok.ensures.whole);
    }

pub fill-outcome-requires : goal.fill-outcome-requires
fill-outcome-requires g c =
    let drawer = c.loop-number.drawer in
    let now = c.loop-number.invariant in
    record {
      serves =
          subst
          (λ (draw : DrawJob). ((g.E.Sampling.drawn drawer.sampler).region ≡ draw.region) × AreBottomHeights draw.region drawer.bottom.now × (draw.job.bound ≤ 30)
          × g.E.Sampling.can_draw drawer.sampler) (sym now.same) (now.region, now.bottom, c.requires.bound, now.ready);
    }

pub returns-in_default-put_outcome : goal.returns-in_default-put_outcome
returns-in_default-put_outcome g c =
    let draw = draw_of c.args.blank in
    let n = c.loop-number.number in
    let outcome = c.fill-outcome.result in
    let entry : Entry = entry_of outcome.drawn outcome.noted n in
    let start = g.K.Sink.state c.args.sink.now in
    let mid = g.K.Sink.state c.loop-number.sink in
    let end = g.K.Sink.state c.put_outcome.new.sink in
    let filled : EntriesOf draw n entry =
    subst (λ (d : DrawJob). EntriesOf d n entry) (c.fill-outcome.ensures.job ∙ c.loop-number.invariant.same) c.fill-outcome.ensures.filled in
    entry-cut (EntriesOf draw) c.args.head.now c.args.count (some-of draw c.args.drawer.now.bottom.now c.requires.bottom c.requires.accepted) n
    (code_of c.loop-number.status) entry c.loop-number.page start mid end c.loop-number-test.true c.loop-number.invariant.gathered filled
    c.in_default-put_outcome.ensures.cut

pub loop-number-preserved : goal.loop-number-preserved
loop-number-preserved g c =
    let draw = draw_of c.args.blank in
    let n = c.loop-number.number in
    let outcome = c.fill-outcome.result in
    let entry : Entry = entry_of outcome.drawn outcome.noted n in
    let page = c.put_outcome.new.page in
    let start = g.K.Sink.state c.args.sink.now in
    let mid = g.K.Sink.state c.loop-number.sink in
    let end = g.K.Sink.state c.put_outcome.new.sink in
    let now = c.loop-number.invariant in
    let same : draw_of outcome ≡ draw = c.fill-outcome.ensures.job ∙ now.same in
    let filled : EntriesOf draw n entry = subst (λ (d : DrawJob). EntriesOf d n entry) same c.fill-outcome.ensures.filled in
    let (region, bottom, bound, ready) = c.fill-outcome.ensures.serves draw (now.region, now.bottom, c.requires.bound, now.ready) in
    record {
      same = same;
      region = region;
      bottom = bottom;
      ready = ready;
      gathered =
          subst (λ (s : ℕ). AreGathered (EntriesOf draw) c.args.head.now (n + 1) s page start end) (sym c.status_with-status.ensures)
          (one-gathered (EntriesOf draw) c.args.head.now n (code_of c.loop-number.status) entry outcome.drawn c.loop-number.page page start mid end now.gathered
          filled (entry_of-late outcome.drawn outcome.noted n) c.in-Ok-put_outcome.ensures.whole);
    }

pub returns-in_default-flush : goal.returns-in_default-flush
returns-in_default-flush g c =
    let draw = draw_of c.args.blank in
    let head = c.args.head.now in
    let page = c.loop-number.page in
    let start = g.K.Sink.state c.args.sink.now in
    let mid = g.K.Sink.state c.loop-number.sink in
    let end = g.K.Sink.state c.flush.new.sink in
    let status = code_of c.loop-number.status in
    let all : c.loop-number.number ≡ c.args.count = omega arith in
    last-cut (EntriesOf draw) head c.args.count status page start mid end
    (subst (λ (n : ℕ). AreGathered (EntriesOf draw) head n status page start mid) all c.loop-number.invariant.gathered) c.in_default-flush.ensures.cut

pub returns : goal.returns
returns g c =
    let draw = draw_of c.args.blank in
    let head = c.args.head.now in
    let page = c.loop-number.page in
    let start = g.K.Sink.state c.args.sink.now in
    let mid = g.K.Sink.state c.loop-number.sink in
    let end = g.K.Sink.state c.flush.new.sink in
    let status = code_of c.loop-number.status in
    let all : c.loop-number.number ≡ c.args.count = omega arith in
    all-written (EntriesOf draw) head c.args.count status page start mid end
    (subst (λ (n : ℕ). AreGathered (EntriesOf draw) head n status page start mid) all c.loop-number.invariant.gathered) c.in-Ok-flush.ensures.whole
