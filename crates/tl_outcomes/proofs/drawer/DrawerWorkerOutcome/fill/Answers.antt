use Rattle.std.proofs.Common.{refl, sym, ◌∙◌, subst}
use Rattle.tl_bits.specs.Bits.{bits_of}
use Rattle.tl_definitions.specs.Region.{Region}
use Rattle.tl_definitions.specs.Sweep.{IsLate}
use Rattle.tl_height.specs.HeightFunction.{HeightFunction}
use Rattle.tl_sampler.specs.Drawn.{AreHeightsOfSample}
use Rattle.tl_outcomes.specs.declared.draw_job.DrawJob.{DrawJob}
use Rattle.tl_outcomes.specs.declared.noted.Noted.{Noted}
use Rattle.tl_outcomes.specs.Notes.{IsNoteOf}
use Rattle.tl_outcomes.specs.Outcomes.{is_rank}
use Rattle.tl_outcomes.proofs.EntryLemmas.{filled-at, filled-late}
use Rattle.tl_outcomes.proofs.drawer.DrawerWorkerOutcome.fill.Goals as goal
use Rattle.tl_outcomes.proofs.drawer.DrawerWorkerOutcome.fill.Goals.{in-At, in-Late}

pub returns-clause-filled : goal.returns-clause-filled
returns-clause-filled g c =
    let job = c.args.blank.job.now in
    let draw : DrawJob = record { region = c.args.blank.region.now; job = job; is_ranked = is_rank c.match-drawn.noted } in
    let n = c.args.number in
    let low = c.args.self.now.bottom.now in
    let drawn_heights = g.E.Sampling.drawn c.draw-drawn.new.self in
    let same = c.requires.serves.0 in
    elim c.match-drawn.branch [
      | in-At w ↦
          filled-at draw n low drawn_heights w.in-At.field-0 c.draw-drawn.result c.match-drawn.noted w.in-At.is refl c.requires.serves.1 (c.draw-drawn.ensures.region ∙ same)
          (subst (λ (R : Region). AreHeightsOfSample R (bits_of R job.seed n) job.bound w.in-At.field-0 drawn_heights) same (c.draw-drawn.ensures.at w.in-At.field-0 w.in-At.is))
          (subst (λ (h : HeightFunction). IsNoteOf low h c.match-drawn.noted) w.sample.ensures
          (subst (λ (m : Noted). IsNoteOf low w.sample.result.now m) (sym w.noted-is) w.note-noted.ensures.note))
      | in-Late w ↦
          filled-late draw n c.draw-drawn.result c.match-drawn.noted w.in-Late.is
          (subst (λ (R : Region). IsLate R (bits_of R job.seed n) job.bound) same (c.draw-drawn.ensures.late w.in-Late.is))
    ]
