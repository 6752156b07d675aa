use Rattle.std.proofs.Common.{ℕ, List, subst}
use Rattle.tl_definitions.specs.Region.{Region}
use Rattle.tl_run.specs.Answers.{Allows}
use Rattle.tl_run.specs.Flips.{TwoDrawings, RefusesDrawings, IsDistanceAnswer, DistanceReply}
use Rattle.tl_run.specs.Replying.{answer_of}
use Rattle.tl_run.proofs.DrawingLemmas.{TwoDrawings-drawn, TwoDrawings-refused}
use Rattle.tl_run.proofs.ReaderLemmas.{OfRegion-read}
use Rattle.tl_run.proofs.StopLemmas.{IfRefused-weaker, IfMade-passed}
use Rattle.tl_run.proofs.flips.distance.Goals as goal

abbrev Replies : Region → List ℕ → Allows
Replies R rest = TwoDrawings R rest (IsDistanceAnswer R)

pub returns-in_err-first : goal.returns-in_err-first
returns-in_err-first c =
    let R = c.in_ok-region.region in
    let rest = c.in_ok-region.rest.now in
    IfMade-passed c.from_residual-in_err-first.result c.in_err-first.field-0.0 (DistanceReply c.args.input.now) c.from_residual-in_err-first.ensures.1
    (IfRefused-weaker c.in_err-first.field-0.0 (RefusesDrawings R rest) (DistanceReply c.args.input.now)
    (λ a p. OfRegion-read c.args.input.now rest R Replies a c.in_ok-region.ensures.region c.in_ok-region.ensures.rest
    (TwoDrawings-refused R rest (IsDistanceAnswer R) a p))
    c.in_err-first.ensures.refused)

pub returns : goal.returns
returns c =
    let R = c.in_ok-region.region in
    let rest = c.in_ok-region.rest.now in
    let a = answer_of c.in_ok-distance_reply.field-0 in
    OfRegion-read c.args.input.now rest R Replies a c.in_ok-region.ensures.region c.in_ok-region.ensures.rest
    (TwoDrawings-drawn R rest _ _ (IsDistanceAnswer R) a c.in_ok-first.ensures.drawn
    (subst (λ (Q : Region). IsDistanceAnswer Q c.in_ok-first.first.tiles c.in_ok-first.second.tiles a) c.in_ok-first.ensures.first c.in_ok-distance_reply.ensures))
