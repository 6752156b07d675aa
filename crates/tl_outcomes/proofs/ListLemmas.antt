-- Lists that grow, and pieces that were filled.
use Rattle.std.proofs.Common.{◌≡◌, ◌<◌, All, List, [], ◌∷◌, ◌++◌, length, slice_index_or, sym, ◌∙◌, subst, arith}
use Rattle.std.proofs.lemmas.Option.{slice_get_within, slice_get-get_or}
use Rattle.std.proofs.lemmas.List.Elements.{All-push}
use Rattle.tl_workers.specs.Filled.{AreFilled}
use Rattle.tl_outcomes.specs.declared.draw_job.DrawJob.{DrawJob}
use Rattle.tl_outcomes.specs.declared.outcome.Outcome.{Outcome}
use Rattle.tl_outcomes.specs.Outcomes.{AreOutcomesOf, draw_of, entry_of, EntriesOf}

pub all_pushed : {A : Type 0} (P : A → Type 0) (xs ys : List A) (x : A) → ys ≡ xs ++ x ∷ [] → All P xs → P x → All P ys
all_pushed P xs ys x e all last = subst (All P) (sym e) (All-push P xs x all last)

-- outcomes that were filled in the place of blanks of one job
pub filled-outcomes : (draw : DrawJob) (blanks outcomes : List Outcome) → All (λ o. draw_of o ≡ draw) blanks
    → AreFilled draw_of (λ o n. EntriesOf (draw_of o) n (entry_of o.drawn o.noted n)) blanks outcomes → AreOutcomesOf draw outcomes
filled-outcomes draw blanks outcomes one_job filled n o at =
    let near : n < length blanks = omega (arith, slice_get_within outcomes n o at, filled.count) in
    let told = filled.each n (slice_index_or blanks n o) o (slice_get-get_or blanks n o near) at in
    subst (λ (d : DrawJob). EntriesOf d n (entry_of o.drawn o.noted n)) (told.0 ∙ one_job n o near) told.1
