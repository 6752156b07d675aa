use Rattle.std.proofs.Common.{◌≡◌, List, ◌∷◌, ℕ, sym, ◌∙◌, ap, subst}
use Rattle.std.specs.Option.{option_copied}
use Rattle.tl_formats.specs.ObstructionText.{words_of, head_of_words}
use Rattle.tl_obstruction.specs.Told.{words_after}
use Rattle.tl_obstruction.proofs.Words.{head-too_long}
use Rattle.tl_obstruction.proofs.reading.read_head.Goals as goal

pub returns-in-Some-rest-3 : goal.returns-in-Some-rest-3
returns-in-Some-rest-3 c =
    let a = c.cut_word.result.0.now in
    let b = c.cut_word-2.result.0.now in
    let s = c.cut_word-3.result.0.now in
    let n = c.cut_word-4.result.0.now in
    let first = subst (λ o. words_of c.args.line.now ≡ a ∷ words_after (option_copied o)) c.in-Some.is c.cut_word.ensures in
    let second = subst (λ o. words_of c.in-Some.rest.now ≡ b ∷ words_after (option_copied o)) c.in-Some-rest.is c.cut_word-2.ensures in
    let third = subst (λ o. words_of c.in-Some-rest.rest.now ≡ s ∷ words_after (option_copied o)) c.in-Some-rest-2.is c.cut_word-3.ensures in
    let fourth = subst (λ o. words_of c.in-Some-rest-2.rest.now ≡ n ∷ words_after (option_copied o)) c.in-Some-rest-3.is c.cut_word-4.ensures in
    head-too_long a b s n c.in-Some-rest-3.field-0.now
    ∙ sym (ap head_of_words (
    first ∙ ap (λ (ws : List (List ℕ)). a ∷ ws) second ∙ ap (λ (ws : List (List ℕ)). a ∷ b ∷ ws) third ∙ ap (λ (ws : List (List ℕ)). a ∷ b ∷ s ∷ ws) fourth))
