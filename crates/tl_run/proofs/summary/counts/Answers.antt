use Rattle.std.proofs.Common.{rules, ◌≡◌, ℕ, List, [], ◌∷◌, ◌++◌, length, ◌∙◌, sym, ap, append_assoc, codes}
use Rattle.std.specs.Prelude.{IfOk, decimal}
use Rattle.std.specs.String.{string_bytes}
use Rattle.std.proofs.lemmas.Result.{IfOk-weaker}
use Rattle.tl_definitions.specs.Region.{inner_corners}
use Rattle.tl_formats.specs.Texts.{line}
use Rattle.tl_run.specs.Summary.{counts_text}
use Rattle.tl_run.proofs.summary.counts.Goals as goal

-- the text of the two lines as it is written
abbrev written : ℕ → ℕ → List ℕ
written m n = codes "cells " ++ (decimal m ++ (10 ∷ (codes "corners " ++ (decimal n ++ (10 ∷ [])))))

two_lines : (m n : ℕ) → written m n ≡ line (codes "cells" ∷ decimal m ∷ []) ++ line (codes "corners" ∷ decimal n ∷ [])
two_lines m n = ap (λ (l : List ℕ). codes "cells " ++ l) (sym (append_assoc (decimal m) (10 ∷ []) (codes "corners " ++ (decimal n ++ (10 ∷ [])))))

pub returns : goal.returns
returns c =
    let m = length c.args.region.now.cells in
    let n = length (inner_corners c.args.region.now) in
    let is : IfOk c.format.result (λ text. string_bytes text ≡ written m n) = search rules in
    IfOk-weaker c.format.result (λ text. string_bytes text ≡ written m n) (λ text. string_bytes text ≡ counts_text c.args.region.now) (λ text e. e ∙ two_lines m n) is
