use Rattle.std.proofs.Common.{◌≡◌, refl}
use Rattle.tl_run.specs.Answers.{Is}
use Rattle.tl_run.specs.Flips.{RefusesDrawings}
use Rattle.tl_run.specs.Readers.{OfDrawing, RefusesDrawing, AtEnd}
use Rattle.tl_run.specs.Refusals.{drawing_refused, extra_text}
use Rattle.tl_run.proofs.DrawingLemmas.{OfDrawing-refused, first-read, second-read}
use Rattle.tl_run.proofs.ReaderLemmas.{AtEnd-empty, AtEnd-extra}
use Rattle.tl_run.proofs.StopLemmas.{IfRefused-weaker, IfErr-passed}
use Rattle.tl_run.proofs.flips.two_tilings.Goals as goal

pub returns-in_err-first-clause-refused : goal.returns-in_err-first-clause-refused
returns-in_err-first-clause-refused c =
    let R = c.args.region.now in
    let stop = c.in_err-first.field-0.0 in
    IfErr-passed c.from_residual.result stop (RefusesDrawings R c.args.bytes.now) c.from_residual.ensures.1
    (IfRefused-weaker stop (RefusesDrawing (drawing_refused 1) R c.args.bytes.now) (RefusesDrawings R c.args.bytes.now)
    (λ a p. OfDrawing-refused (drawing_refused 1) R c.args.bytes.now (λ A mid. OfDrawing (drawing_refused 2) R mid (λ B end. AtEnd end (λ b. ⊥))) a p)
    c.in_err-first.ensures.refused)

pub returns-in_err-second-clause-refused : goal.returns-in_err-second-clause-refused
returns-in_err-second-clause-refused c =
    let R = c.args.region.now in
    let bytes = c.args.bytes.now in
    let rest = c.in_ok-first.rest.now in
    let stop = c.in_err-second.field-0.0 in
    IfErr-passed c.from_residual-in_err-second.result stop (RefusesDrawings R bytes) c.from_residual-in_err-second.ensures.1
    (IfRefused-weaker stop (RefusesDrawing (drawing_refused 2) R rest) (RefusesDrawings R bytes)
    (λ a p. first-read R bytes rest c.in_ok-first.first.tiles (λ A B b. ⊥) a c.in_ok-first.ensures.allowed c.in_ok-first.ensures.drawn c.in_ok-first.ensures.rest
    (OfDrawing-refused (drawing_refused 2) R rest (λ B end. AtEnd end (λ b. ⊥)) a p))
    c.in_err-second.ensures.refused)

pub returns-in_err-at_end-clause-refused : goal.returns-in_err-at_end-clause-refused
returns-in_err-at_end-clause-refused c =
    let R = c.args.region.now in
    let bytes = c.args.bytes.now in
    let rest = c.in_ok-first.rest.now in
    let end = c.in_ok-second.end.now in
    let stop = c.in_err-at_end.field-0.0 in
    IfErr-passed c.from_residual-in_err-at_end.result stop (RefusesDrawings R bytes) c.from_residual-in_err-at_end.ensures.1
    (IfRefused-weaker stop (Is extra_text) (RefusesDrawings R bytes)
    (λ a e. first-read R bytes rest c.in_ok-first.first.tiles (λ A B b. ⊥) a c.in_ok-first.ensures.allowed c.in_ok-first.ensures.drawn c.in_ok-first.ensures.rest
    (second-read R rest end c.in_ok-first.first.tiles c.in_ok-second.second.tiles (λ A B b. ⊥) a c.in_ok-second.ensures.allowed c.in_ok-second.ensures.drawn c.in_ok-second.ensures.rest
    (AtEnd-extra end (λ b. ⊥) a c.in_err-at_end.ensures.extra e)))
    c.in_err-at_end.ensures.refused)

pub returns-clause-drawn : goal.returns-clause-drawn
returns-clause-drawn c = λ a.
    let A = c.in_ok-first.first.tiles in
    let B = c.in_ok-second.second.tiles in
    let rest = c.in_ok-first.rest.now in
    let end = c.in_ok-second.end.now in
    first-read c.args.region.now c.args.bytes.now rest A (λ C D b. (C ≡ A) × (D ≡ B)) a c.in_ok-first.ensures.allowed c.in_ok-first.ensures.drawn c.in_ok-first.ensures.rest
    (second-read c.args.region.now rest end A B (λ C D b. (C ≡ A) × (D ≡ B)) a c.in_ok-second.ensures.allowed c.in_ok-second.ensures.drawn c.in_ok-second.ensures.rest
    (AtEnd-empty end (λ b. (A ≡ A) × (B ≡ B)) a c.in_ok-at_end.ensures.empty (refl, refl)))
