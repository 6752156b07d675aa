use Rattle.std.proofs.Common.{ap, ◌∙◌}
use Rattle.std.proofs.lemmas.Iterator.{YieldsList-from_zip}
use Rattle.std.proofs.lemmas.Iterator.Adapters.{YieldsList-from_vec}
use Rattle.std.proofs.lemmas.Iterator.Consumers.{YieldsList-end}
use Rattle.tl_workers.proofs.Lists.{firsts, seconds}
use Rattle.tl_workers.proofs.filling.seats_of.Goals as goal

pub returns-clause-callers : goal.returns-clause-callers
returns-clause-callers g c = let zipped = c.zip-caller-items.ensures in let begun = c.into_iter-caller-iterator.ensures.into_iter_gives in
    let road = YieldsList-from_zip
    (YieldsList-from_vec c.args.callers.items (ap (λ z. z.a.rest.items) begun ∙ (ap (λ i. i.rest.items) zipped.first ∙ c.into_iter.ensures.rest)) (ap (λ z. z.a.rest.len) begun ∙ (ap (λ i. i.rest.len) zipped.first ∙ (c.into_iter.ensures.len ∙ c.args.callers.ok.0))))
    (YieldsList-from_vec c.args.workers.items (ap (λ z. z.b.rest.items) begun ∙ zipped.second.0) (ap (λ z. z.b.rest.len) begun ∙ (zipped.second.1 ∙ c.args.workers.ok.0))) in
    let paired = YieldsList-end road c.loop-caller.yielded _ c.loop-caller.yielded_by c.next.result c.next.new.self c.in-None.is c.next.ensures.steps in
    firsts (λ s. s.caller) (λ s. s.worker) c.loop-caller.seats.items c.loop-caller.yielded c.args.callers.items c.args.workers.items c.loop-caller.invariant paired.0 c.requires.count

pub returns-clause-workers : goal.returns-clause-workers
returns-clause-workers g c = let zipped = c.zip-caller-items.ensures in let begun = c.into_iter-caller-iterator.ensures.into_iter_gives in
    let road = YieldsList-from_zip
    (YieldsList-from_vec c.args.callers.items (ap (λ z. z.a.rest.items) begun ∙ (ap (λ i. i.rest.items) zipped.first ∙ c.into_iter.ensures.rest)) (ap (λ z. z.a.rest.len) begun ∙ (ap (λ i. i.rest.len) zipped.first ∙ (c.into_iter.ensures.len ∙ c.args.callers.ok.0))))
    (YieldsList-from_vec c.args.workers.items (ap (λ z. z.b.rest.items) begun ∙ zipped.second.0) (ap (λ z. z.b.rest.len) begun ∙ (zipped.second.1 ∙ c.args.workers.ok.0))) in
    let paired = YieldsList-end road c.loop-caller.yielded _ c.loop-caller.yielded_by c.next.result c.next.new.self c.in-None.is c.next.ensures.steps in
    seconds (λ s. s.caller) (λ s. s.worker) c.loop-caller.seats.items c.loop-caller.yielded c.args.callers.items c.args.workers.items c.loop-caller.invariant paired.0 c.requires.count
