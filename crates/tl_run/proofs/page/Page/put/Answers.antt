use Rattle.std.proofs.Common.{◌≡◌, ℕ, List, [], Ok, Err, OnOk, sym, subst}
use Rattle.std.specs.Io.KnownBytes.{append_known}
use Rattle.std.specs.Prelude.{Result}
use Rattle.tl_io.specs.States.{SinkState}
use Rattle.tl_run.specs.Pages.{Gathers}
use Rattle.tl_run.specs.Writing.{Appends}
use Rattle.tl_run.proofs.PageLemmas.{Gathers-written}
use Rattle.tl_run.proofs.page.Page.put.Goals as goal

-- the last write, by what it ensures
last : {X E : Type 0} (r : Result X E) (waiting bytes waiting' : List ℕ) (sink mid sink' : SinkState) → waiting' ≡ [] → Appends waiting sink mid
    → OnOk r (sink'.held ≡ append_known mid.held bytes) → OnOk r (sink'.faults ≡ mid.faults) → OnOk r (Gathers waiting bytes waiting' sink sink')
last (Ok x) waiting bytes waiting' sink mid sink' empty first held steady =
    subst (λ (l : List ℕ). Gathers waiting bytes l sink sink') (sym empty)
    (Gathers-written waiting bytes sink mid sink' first (record { held = held; steady = steady }))
last (Err e) waiting bytes waiting' sink mid sink' empty first held steady = tt

pub returns-clause-whole : goal.returns-clause-whole
returns-clause-whole g c =
    let start = g.K.Sink.state c.args.sink.now in
    let mid = g.K.Sink.state c.flush.new.sink in
    let end = g.K.Sink.state c.write_all.new.sink in
    last c.write_all.result c.args.self.now c.args.bytes.now c.flush.new.self start mid end c.flush.ensures.emptied c.in_ok-flush.ensures.whole
    c.write_all.ensures.whole c.write_all.ensures.steady
