use Rattle.tl_lawful.proofs.Greatest.{bottom-least, one-bottom, one-top, top-greatest}
use Rattle.tl_lawful.proofs.top_is_greatest.Goals as goal

pub returns : goal.returns
returns c = record {
  top = λ R A numbers accepted. top-greatest R accepted A numbers;
  bottom = λ R A numbers accepted. bottom-least R accepted A numbers;
  one_top = λ R A B accepted. one-top R accepted A B;
  one_bottom = λ R A B accepted. one-bottom R accepted A B;
}
