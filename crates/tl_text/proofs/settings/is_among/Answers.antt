use Rattle.std.proofs.Common.{◌∙◌, sym, rules, tests, List, ℕ}
use Rattle.std.specs.Borrow.{Bor}
use Rattle.std.specs.Str.{bytes_eq}
use Rattle.std.proofs.lemmas.Iterator.{YieldsList-from_slice}
use Rattle.std.proofs.lemmas.Iterator.Search.{any_from_yields_List}
use Rattle.tl_text.proofs.SettingLemmas.{list_any-map}
use Rattle.tl_text.proofs.settings.is_among.Goals as goal

pub returns : goal.returns
returns c =
    any_from_yields_List (λ (s : Bor (List ℕ)). bytes_eq c.args.name.now s.now) _ _ c.any.result c.any.ensures.ran (YieldsList-from_slice c.args.names.now cc) (λ x b q k. search (rules, tests))
    ∙ sym (list_any-map _ (λ (w : Bor (List ℕ)). w.now) c.args.names.now)
