use Rattle.tl_lawful.specs.Order.{greater, lesser}
use Rattle.tl_lawful.proofs.Choices.{chosen, chosen-at, chosen-lawful, greater-mild, lesser-mild}
use Rattle.tl_lawful.proofs.greater_and_lesser_heights.Goals as goal

pub returns : goal.returns
returns c = record {
  greater = λ R a b accepted a_lawful b_lawful. (
    chosen R greater a b,
    chosen-lawful R a b greater greater-mild accepted a_lawful b_lawful,
    chosen-at R a b greater greater-mild accepted a_lawful b_lawful,
  );
  lesser = λ R a b accepted a_lawful b_lawful. (
    chosen R lesser a b,
    chosen-lawful R a b lesser lesser-mild accepted a_lawful b_lawful,
    chosen-at R a b lesser lesser-mild accepted a_lawful b_lawful,
  );
}
