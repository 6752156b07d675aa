use Rattle.std.proofs.Common.{◌∙◌, sym, rules, tests}
use Rattle.std.specs.List.{list_any}
use Rattle.std.specs.Str.{bytes_eq}
use Rattle.std.proofs.lemmas.Iterator.{YieldsList-from_slice}
use Rattle.std.proofs.lemmas.Iterator.Search.{all_from_yields_List}
use Rattle.std.proofs.lemmas.List.Folds.{list_all-map}
use Rattle.tl_text.specs.declared.settings.Given.{Given}
use Rattle.tl_text.specs.Given.{seen, texts}
use Rattle.tl_text.proofs.settings.are_named.Goals as goal

pub returns : goal.returns
returns c =
    all_from_yields_List (λ (s : Given). list_any (bytes_eq s.name.now) (texts c.args.names.now)) _ _ c.all.result c.all.ensures.ran (YieldsList-from_slice c.args.settings.now cc) (λ x b q k. search (rules, tests))
    ∙ sym (list_all-map _ seen c.args.settings.now)
