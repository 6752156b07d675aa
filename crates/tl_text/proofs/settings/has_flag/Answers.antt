use Rattle.std.proofs.Common.{◌∙◌, sym, rules, tests}
use Rattle.std.proofs.lemmas.Iterator.{YieldsList-from_slice}
use Rattle.std.proofs.lemmas.Iterator.Search.{any_from_yields_List}
use Rattle.tl_text.specs.declared.settings.Given.{Given}
use Rattle.tl_text.specs.Words.{is_flag}
use Rattle.tl_text.specs.Given.{seen}
use Rattle.tl_text.proofs.SettingLemmas.{list_any-map}
use Rattle.tl_text.proofs.settings.has_flag.Goals as goal

pub returns : goal.returns
returns c =
    any_from_yields_List (λ (s : Given). is_flag s.name.now) _ _ c.any.result c.any.ensures.ran (YieldsList-from_slice c.args.settings.now cc) (λ x b q k. search (rules, tests))
    ∙ sym (list_any-map _ seen c.args.settings.now)
