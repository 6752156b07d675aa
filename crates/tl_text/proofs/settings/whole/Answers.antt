use Rattle.std.proofs.Common.{◌∙◌, sym, arith, None}
use Rattle.std.proofs.lemmas.Str.Pattern.{split_once_first}
use Rattle.tl_text.proofs.SettingLemmas.{not_whole}
use Rattle.tl_text.proofs.settings.whole.Goals as goal

pub returns-in_err-name : goal.returns-in_err-name
returns-in_err-name c =
    rw c.from_residual.ensures
    (not_whole c.args.word.now (sym c.is_flag.ensures ∙ c.if-is_flag.false)
    (split_once_first 61 c.args.word.now None c.in_err-name.ensures.cases (omega arith)))
