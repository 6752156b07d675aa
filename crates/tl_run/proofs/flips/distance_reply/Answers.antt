use Rattle.std.proofs.Common.{rules, ◌≡◌, ℕ, List, [], ◌∷◌, ◌∙◌, ap, codes}
use Rattle.std.specs.Prelude.{decimal}
use Rattle.std.specs.String.{string_bytes}
use Rattle.tl_formats.specs.Texts.{line}
use Rattle.tl_run.specs.Answers.{answer}
use Rattle.tl_run.proofs.FlipLemmas.{IsDistanceAnswer-told}
use Rattle.tl_run.proofs.flips.distance_reply.Goals as goal

pub returns : goal.returns
returns c =
    let text : string_bytes c.in_ok-text.text ≡ line (codes "distance" ∷ decimal c.distance-flips.result ∷ []) = search rules in
    IsDistanceAnswer-told c.args.first.now.region c.in_ok-from.from.region c.in_ok-from.from.numbers c.in_ok-from.to.numbers _ _ _ c.in_ok-from.ensures.first c.in_ok-from.ensures.from
    c.in_ok-from.ensures.to c.distance-flips.result c.distance-flips.ensures.distance (c.made.ensures ∙ ap (λ (t : List ℕ). answer t 0) text)
