use Rattle.std.proofs.Common.{◌≡◌, ℕ, ◌+◌, List, ◌++◌, length, refl, sym, subst, arith}
use Rattle.std.proofs.lemmas.Option.{slice_get_read}
use Rattle.tl_outcomes.proofs.Stated.{some-of}
use Rattle.tl_outcomes.specs.Entries.{Entry}
use Rattle.tl_outcomes.specs.Outcomes.{EntriesOf, entry_of}
use Rattle.tl_run.specs.Pages.{Gathers}
use Rattle.tl_run.specs.Statuses.{code_of}
use Rattle.tl_run.specs.Writing.{Cuts}
use Rattle.tl_run.proofs.EntryLemmas.{AreGathered, none-gathered, one-gathered, all-written, last-cut, head-cut, entry-cut, entry_of-late}
use Rattle.tl_run.proofs.draws.write_outcomes.Goals as goal

pub returns-in_default : goal.returns-in_default
returns-in_default g c draw low bottom accepted are =
    let head = c.args.head.now in
    let start = g.K.Sink.state c.args.sink.now in
    let end = g.K.Sink.state c.put.new.sink in
    head-cut (EntriesOf draw) head (length c.args.outcomes.now) (some-of draw low bottom accepted) start end
    (subst (λ (l : List ℕ). Cuts (l ++ head) start end) c.new-page.ensures c.in_default.ensures.cut)

pub loop-number-init : goal.loop-number-init
loop-number-init g c draw are =
    let head = c.args.head.now in
    let start = g.K.Sink.state c.args.sink.now in
    let end = g.K.Sink.state c.put.new.sink in
    none-gathered (EntriesOf draw) head c.put.new.self start end
    (subst (λ (l : List ℕ). Gathers l head c.put.new.self start end) c.new-page.ensures c.in-Ok.ensures.whole)

pub overflow_cast-number : goal.overflow_cast-number
overflow_cast-number g c = omega (arith, c.requires)

pub returns-in_default-put_outcome : goal.returns-in_default-put_outcome
returns-in_default-put_outcome g c draw low bottom accepted are =
    let n = c.loop-number.number in
    let outcome = c.index-outcomes-number.result in
    let entry : Entry = entry_of outcome.drawn outcome.noted n in
    let start = g.K.Sink.state c.args.sink.now in
    let mid = g.K.Sink.state c.loop-number.sink in
    let end = g.K.Sink.state c.put_outcome.new.sink in
    let filled : EntriesOf draw n entry =
    are n outcome (slice_get_read c.args.outcomes.now (length c.args.outcomes.now) n outcome refl c.loop-number-test.true c.index-outcomes-number.is) in
    entry-cut (EntriesOf draw) c.args.head.now (length c.args.outcomes.now) (some-of draw low bottom accepted) n (code_of c.loop-number.status) entry
    c.loop-number.page start mid end c.loop-number-test.true (c.loop-number.invariant draw are) filled c.in_default-put_outcome.ensures.cut

pub loop-number-preserved : goal.loop-number-preserved
loop-number-preserved g c draw are =
    let n = c.loop-number.number in
    let outcome = c.index-outcomes-number.result in
    let entry : Entry = entry_of outcome.drawn outcome.noted n in
    let page = c.put_outcome.new.page in
    let start = g.K.Sink.state c.args.sink.now in
    let mid = g.K.Sink.state c.loop-number.sink in
    let end = g.K.Sink.state c.put_outcome.new.sink in
    let filled : EntriesOf draw n entry =
    are n outcome (slice_get_read c.args.outcomes.now (length c.args.outcomes.now) n outcome refl c.loop-number-test.true c.index-outcomes-number.is) in
    subst (λ (s : ℕ). AreGathered (EntriesOf draw) c.args.head.now (n + 1) s page start end) (sym c.status_with-status.ensures)
    (one-gathered (EntriesOf draw) c.args.head.now n (code_of c.loop-number.status) entry outcome.drawn c.loop-number.page page start mid end
    (c.loop-number.invariant draw are) filled (entry_of-late outcome.drawn outcome.noted n) c.in-Ok-put_outcome.ensures.whole)

pub returns-in_default-flush : goal.returns-in_default-flush
returns-in_default-flush g c draw low bottom accepted are =
    let head = c.args.head.now in
    let page = c.loop-number.page in
    let start = g.K.Sink.state c.args.sink.now in
    let mid = g.K.Sink.state c.loop-number.sink in
    let end = g.K.Sink.state c.flush.new.sink in
    let status = code_of c.loop-number.status in
    let count = length c.args.outcomes.now in
    let all : c.loop-number.number ≡ count = omega (arith, c.loop-number.auto.number-end) in
    last-cut (EntriesOf draw) head count status page start mid end
    (subst (λ (n : ℕ). AreGathered (EntriesOf draw) head n status page start mid) all (c.loop-number.invariant draw are)) c.in_default-flush.ensures.cut

pub returns : goal.returns
returns g c draw low bottom accepted are =
    let head = c.args.head.now in
    let page = c.loop-number.page in
    let start = g.K.Sink.state c.args.sink.now in
    let mid = g.K.Sink.state c.loop-number.sink in
    let end = g.K.Sink.state c.flush.new.sink in
    let status = code_of c.loop-number.status in
    let count = length c.args.outcomes.now in
    let all : c.loop-number.number ≡ count = omega (arith, c.loop-number.auto.number-end) in
    all-written (EntriesOf draw) head count status page start mid end
    (subst (λ (n : ℕ). AreGathered (EntriesOf draw) head n status page start mid) all (c.loop-number.invariant draw are)) c.in-Ok-flush.ensures.whole
