-- Words and options as the definitions see them.
use Rattle.std.specs.Prelude.{ℕ, List, map, option_map}
use Rattle.std.specs.Borrow.{Bor}
use Rattle.tl_text.specs.declared.settings.Given.{Given}
use Rattle.tl_text.specs.Words.{Setting, setting}

abbrev pub texts : List (Bor (List ℕ)) → List (List ℕ)
texts words = map (λ w. w.now) words

abbrev pub seen : Given → Setting
seen given = setting given.name.now (option_map (λ v. v.now) given.value)

abbrev pub all_seen : List Given → List Setting
all_seen all = map seen all
