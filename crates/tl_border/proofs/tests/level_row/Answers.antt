use Rattle.std.proofs.Common.{rules, ◌≡◌, [], ◌∷◌, ap}
use Rattle.tl_border.specs.Rows.{bits_of_words}
use Rattle.tl_border.specs.Levels.{level}
use Rattle.tl_border.proofs.tests.level_row.Goals as goal

pub returns : goal.returns
unfolding level
returns c = let words : c.in_ok-words.words.items ≡ c.args.number ∷ c.args.number ∷ [] = search rules in ap bits_of_words words
