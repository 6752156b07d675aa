use Rattle.std.proofs.Common.{rules, tests, arith}
use Rattle.std.proofs.lemmas.Iterator.{YieldsList-from_slice}
use Rattle.std.proofs.lemmas.Iterator.Search.{all_from_yields_List}
use Rattle.std.proofs.lemmas.Bool.Decides.{nat_tests}
use Rattle.tl_formats.specs.Texts.{is_digit}
use Rattle.tl_text.proofs.values.are_digits.Goals as goal

pub returns-then-all : goal.returns-then-all
returns-then-all c =
    let all = all_from_yields_List is_digit _ _ c.all.result c.all.ensures.ran (YieldsList-from_slice c.args.word.now cc) (λ x b q k. search (rules, tests)) in
    grind (arith, nat_tests)
