use Rattle.std.proofs.Common.{ℕ, drop, ◌∙◌, ap}
use Rattle.tl_formats.proofs.Lines.{drop-further}
use Rattle.tl_run.proofs.readers.drawing_of.Goals as goal

pub returns-in-Ok-clause-rest : goal.returns-in-Ok-clause-rest
returns-in-Ok-clause-rest c =
    c.split_at.ensures.back ∙ ap (λ (n : ℕ). drop n c.args.bytes.now) c.in-Ok.ensures.taken ∙ drop-further c.args.bytes.now
