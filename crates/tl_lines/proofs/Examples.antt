-- What is left after lines, by evaluation.
use Rattle.std.proofs.Common.{◌≡◌, ◌++◌, [], ◌∷◌, refl, codes}
use Rattle.tl_formats.specs.Input.{further_section}
use Rattle.tl_lines.specs.Lines.{after_line, after_empty_lines, section_at}

after_line-two : after_line (codes "##" ++ 13 ∷ 10 ∷ codes "#.") ≡ codes "#."
after_line-two = refl

after_line-last : after_line (codes "##") ≡ []
after_line-last = refl

after_empty_lines-two : after_empty_lines (10 ∷ 13 ∷ 10 ∷ codes "##" ++ 10 ∷ []) ≡ codes "##" ++ 10 ∷ []
after_empty_lines-two = refl

after_empty_lines-all : after_empty_lines (10 ∷ []) ≡ []
after_empty_lines-all = refl

-- Of an empty line that is left the section there says nothing.
section_at-empty_line : section_at (10 ∷ []) ≡ further_section (10 ∷ [])
section_at-empty_line = refl
