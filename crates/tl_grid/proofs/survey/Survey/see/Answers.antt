use Rattle.std.proofs.Common.{◌+◌, ◌++◌, ◌∷◌, [], cond, ◌∙◌, ap, arith}
use Rattle.tl_grid.specs.declared.survey.Survey.{Survey}
use Rattle.tl_grid.specs.Survey.{has_exit}
use Rattle.tl_grid.proofs.SurveyLemmas.{among-more, among-few, bool_byte-few, one_more}
use Rattle.tl_grid.proofs.survey.Survey.see.Goals as goal

pub see_boundary-requires : goal.see_boundary-requires
see_boundary-requires c =
    let few = among-few c.args.grid.now c.args.corner.r c.args.corner.x c.args.self.now c.requires.is_grid c.requires.row c.requires.column c.requires.seen in
    few.0

pub overflow_add-self : goal.overflow_add-self
overflow_add-self c =
    let few = among-few c.args.grid.now c.args.corner.r c.args.corner.x c.args.self.now c.requires.is_grid c.requires.row c.requires.column c.requires.seen in
    omega (arith, few.1, ap (λ (s : Survey). s.corners) c.see_boundary.ensures, c.from.ensures, bool_byte-few c.args.facts.is_touched)

pub overflow_add-self-2 : goal.overflow_add-self-2
overflow_add-self-2 c =
    let few = among-few c.args.grid.now c.args.corner.r c.args.corner.x c.args.self.now c.requires.is_grid c.requires.row c.requires.column c.requires.seen in
    omega (arith, few.2, ap (λ (s : Survey). s.edges) c.see_boundary.ensures, c.from-2.ensures)

pub returns : goal.returns
returns c =
    let old : Survey = c.args.self.now in
    let b = c.see_boundary.ensures in record {
      seen =
          among-more c.args.grid.now c.args.corner.r c.args.corner.x old _ c.args.facts c.requires.facts c.requires.seen
          (ap (λ (s : Survey). s.pinch) b)
          (ap (λ (s : Survey). s.start) b)
          (ap (λ (s : Survey). s.boundary) b ∙ one_more (has_exit c.args.facts) old.boundary)
          (λ i. (b i).corners + c.from.ensures i)
          (λ i. (b i).edges + c.from-2.ensures i)
          (c.in_ok-push_if.ensures
          ∙ (λ i. cond c.args.facts.is_inner ((b i).inner.items ++ c.corner_place.ensures.place i ∷ []) (b i).inner.items))
          (c.in_ok-push.ensures.items ∙ (λ i. (b i).exits.items ++ c.args.facts.exit ∷ []));
    }
