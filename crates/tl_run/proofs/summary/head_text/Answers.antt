use Rattle.std.proofs.Common.{rules, ◌≡◌, [], ◌∷◌, ◌++◌, codes}
use Rattle.std.specs.Prelude.{IfOk, decimal}
use Rattle.std.specs.String.{string_bytes}
use Rattle.std.proofs.lemmas.Result.{IfOk-weaker}
use Rattle.tl_formats.specs.Texts.{line}
use Rattle.tl_run.specs.Summary.{counts_text, IsSummaryHead}
use Rattle.tl_run.proofs.SummaryLemmas.{span-told}
use Rattle.tl_run.proofs.summary.head_text.Goals as goal

pub returns : goal.returns
returns c =
    let R = c.args.region.now in
    let span = c.distance-span.result in
    let written : IfOk c.format.result (λ text. string_bytes text ≡ counts_text R ++ line (codes "span" ∷ decimal span ∷ [])) = search rules in
    IfOk-weaker c.format.result (λ text. string_bytes text ≡ counts_text R ++ line (codes "span" ∷ decimal span ∷ [])) (λ text. IsSummaryHead R (string_bytes text))
    (λ text e. (span, span-told R c.args.low.now c.requires.low c.args.high.now span c.requires.high c.distance-span.ensures.distance, e)) written
