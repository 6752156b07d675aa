use Rattle.std.proofs.Common.{◌∙◌, sym, rules, tests}
use Rattle.std.specs.Prelude.{not, ◌||◌, is_none}
use Rattle.std.proofs.lemmas.Iterator.{YieldsList-from_slice}
use Rattle.std.proofs.lemmas.Iterator.Search.{all_from_yields_List}
use Rattle.std.proofs.lemmas.List.Folds.{list_all-map}
use Rattle.tl_text.specs.declared.settings.Given.{Given}
use Rattle.tl_text.specs.Words.{is_flag}
use Rattle.tl_text.specs.Given.{seen}
use Rattle.tl_text.proofs.settings.is_flag_bare.Goals as goal

pub returns : goal.returns
returns c =
    all_from_yields_List (λ (s : Given). not (is_flag s.name.now) || is_none (seen s).value) _ _ c.all.result c.all.ensures.ran (YieldsList-from_slice c.args.settings.now cc) (λ x b q k. search (rules, tests))
    ∙ sym (list_all-map _ seen c.args.settings.now)
