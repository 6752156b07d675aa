use Rattle.tl_marks.proofs.Told.{heights-told, numbers-told}
use Rattle.tl_marks.proofs.marks_tell_the_heights.Goals as goal

pub returns : goal.returns
returns c = record {
  at_corners = λ R numbers others v accepted lawful other_lawful same of_region. heights-told R numbers others accepted lawful other_lawful same v of_region;
  same = λ R numbers others accepted lawful other_lawful same. numbers-told R numbers others accepted lawful other_lawful same;
}
