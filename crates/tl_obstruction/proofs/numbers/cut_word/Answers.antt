use Rattle.tl_obstruction.proofs.Words.{words-cut, words-whole}
use Rattle.tl_obstruction.proofs.numbers.cut_word.Goals as goal

pub returns-in-Some : goal.returns-in-Some
returns-in-Some c = words-cut c.args.line.now c.in-Some.end c.in-Some.ensures

pub returns-in-None : goal.returns-in-None
returns-in-None c = words-whole c.args.line.now c.in-None.ensures
