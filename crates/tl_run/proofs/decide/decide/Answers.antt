use Rattle.tl_run.specs.Decide.{Decided, RegionReply}
use Rattle.tl_run.specs.Replying.{answer_of}
use Rattle.tl_run.proofs.ReaderLemmas.{OfRegion-read, AtEnd-empty}
use Rattle.tl_run.proofs.decide.decide.Goals as goal

pub returns : goal.returns
returns c =
    let R = c.in_ok-region.region in
    let a = answer_of c.in_ok-settle.field-0 in
    OfRegion-read c.args.input.now c.in_ok-region.rest.now R RegionReply a c.in_ok-region.ensures.region c.in_ok-region.ensures.rest
    (AtEnd-empty c.in_ok-region.rest.now (Decided R) a c.in_ok-at_end.ensures.empty c.in_ok-settle.ensures)
