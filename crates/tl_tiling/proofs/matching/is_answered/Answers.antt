use Rattle.std.proofs.Common.{ℕ, sym, ap, ◌∙◌}
use Rattle.std.specs.Prelude.{◌==◌}
use Rattle.std.proofs.lemmas.Bool.{and_parts, and_from, lt-ltb, ltb-true, eqb-true, eq-eqb, false_from_ne_true}
use Rattle.tl_formats.specs.Drawing.{is_matched}
use Rattle.tl_lists.proofs.Tests.{same_test}
use Rattle.tl_tiling.specs.Letters.{letter_at, partner_in}
use Rattle.tl_tiling.proofs.MatchLemmas.{answered, answers}
use Rattle.tl_tiling.proofs.matching.is_answered.Goals as goal

pub returns-then-not-is_within : goal.returns-then-not-is_within
returns-then-not-is_within c =
    sym (false_from_ne_true _ (λ m.
    let w = answers c.args.region.now c.args.letters.now c.requires.lettered c.args.cell c.args.other c.args.near c.args.back c.is_within.ensures.is_grid c.requires.pair m in
    cc (c.is_within.ensures.within, c.if-not-is_within.true, and_from _ _ (lt-ltb _ _ w.0) (lt-ltb _ _ w.1))))

pub returns-then-near : goal.returns-then-near
returns-then-near c =
    let R = c.args.region.now in
    let within = and_parts _ _ (sym c.is_within.ensures.within ∙ c.if-not-is_within.false) in
    ap (λ (l : ℕ). l == c.args.back) c.letter_at.ensures.letter
    ∙ same_test (letter_at R c.args.letters.now c.args.other == c.args.back) (is_matched R (partner_in R c.args.letters.now) c.args.cell)
    (λ e. answered R c.args.letters.now c.requires.lettered c.args.cell c.args.other c.args.near c.args.back c.requires.pair c.if-near.true
    (ltb-true _ _ within.0) (ltb-true _ _ within.1) (eqb-true _ _ e))
    (λ m. eq-eqb _ _ (answers R c.args.letters.now c.requires.lettered c.args.cell c.args.other c.args.near c.args.back c.is_within.ensures.is_grid c.requires.pair m).2)
