-- The region whose samples are asked for.
use Rattle.std.proofs.Common.{inl, inr, ℕ, Bool, true, false, List, refl, sym, subst}
use Rattle.std.specs.Prelude.{nat_lt, MatchBool}
use Rattle.tl_definitions.specs.Region.{Region}
use Rattle.tl_formats.specs.Input.{first_section}
use Rattle.tl_text.specs.declared.SampleJob.{SampleJob}
use Rattle.tl_run.specs.declared.sample.TheConstants.{SAMPLES_LIMIT}
use Rattle.tl_run.specs.Answers.{Answer, Allows, Is}
use Rattle.tl_run.specs.Readers.{AtEnd}
use Rattle.tl_run.specs.Samples.{samples_size, too_large, WithinLimit, OfSampled, RefusesSampled, IsSampledText}
use Rattle.tl_run.proofs.DrawingLemmas.{AtEnd-weaker}
use Rattle.tl_run.proofs.ReaderLemmas.{OfRegion-read, AtEnd-empty}

WithinLimit-weaker : (R : Region) (job : SampleJob) (P Q : Allows) (a : Answer) → (P a → Q a) → WithinLimit R job P a → WithinLimit R job Q a
WithinLimit-weaker R job P Q a f p = go (nat_lt SAMPLES_LIMIT (samples_size R job)) p
  where
    go : (b : Bool) → MatchBool b (Is (too_large (samples_size R job)) a) (P a) → MatchBool b (Is (too_large (samples_size R job)) a) (Q a)
    go true e = e
    go false q = f q

pub OfSampled-refused : (job : SampleJob) (text : List ℕ) (P : Region → Allows) (a : Answer) → RefusesSampled job text a → OfSampled job text P a
OfSampled-refused job text P a (inl r) = inl r
OfSampled-refused job text P a (inr (R, is, p)) =
    inr (
      R,
      is,
      AtEnd-weaker (first_section text).rest (WithinLimit R job (λ b. ⊥)) (WithinLimit R job (P R)) a (WithinLimit-weaker R job (λ b. ⊥) (P R) a (λ e. absurd e)) p,
    )

pub OfSampled-read : (job : SampleJob) (text : List ℕ) (R : Region) (P : Region → Allows) (a : Answer) → IsSampledText job text R → P R a → OfSampled job text P a
OfSampled-read job text R P a is p =
    OfRegion-read text (first_section text).rest R (λ Q rest. AtEnd rest (WithinLimit Q job (P Q))) a is.lines refl
    (AtEnd-empty (first_section text).rest (WithinLimit R job (P R)) a is.end
    (subst (λ (b : Bool). MatchBool b (Is (too_large (samples_size R job)) a) (P R a)) (sym is.within) p))
