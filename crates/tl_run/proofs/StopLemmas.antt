-- Refusals that are handed on.
use Rattle.std.proofs.Common.{◌≡◌, Ok, Err, sym, subst}
use Rattle.std.specs.Prelude.{Result, IsErrAnd, IfErr}
use Rattle.tl_run.specs.declared.reply.Reply.{Reply}
use Rattle.tl_run.specs.declared.reply.Stop.{Stop}
use Rattle.tl_run.specs.declared.reply.Stop.TheVariants.{Refused, Memory}
use Rattle.tl_run.specs.Answers.{Answer, Allows}
use Rattle.tl_run.specs.Replying.{IfRefused, IfMade, Makes}

pub IfRefused-weaker : (stop : Stop) (P Q : Allows) → ((a : Answer) → P a → Q a) → IfRefused stop P → IfRefused stop Q
IfRefused-weaker (Refused reply) P Q f p = f _ p
IfRefused-weaker Memory P Q f p = tt

pub IfMade-weaker : (made : Result Reply Stop) (P Q : Allows) → ((a : Answer) → P a → Q a) → IfMade made P → IfMade made Q
IfMade-weaker (Ok reply) P Q f p = f _ p
IfMade-weaker (Err stop) P Q f p = IfRefused-weaker stop P Q f p

-- what `?` hands on
pub IfMade-passed : (made : Result Reply Stop) (stop : Stop) (P : Allows) → IsErrAnd made (λ s. s ≡ stop) → IfRefused stop P → IfMade made P
IfMade-passed (Ok reply) stop P is p = absurd is
IfMade-passed (Err s) stop P is p = subst (λ (t : Stop). IfRefused t P) (sym is) p

pub IfErr-passed : {X : Type 0} (made : Result X Stop) (stop : Stop) (P : Allows) → IsErrAnd made (λ s. s ≡ stop) → IfRefused stop P
    → IfErr made (λ s. IfRefused s P)
IfErr-passed (Ok x) stop P is p = absurd is
IfErr-passed (Err s) stop P is p = subst (λ (t : Stop). IfRefused t P) (sym is) p

pub Makes-allowed : (made : Result Reply Stop) (P : Allows) → IfMade made P → (a : Answer) → Makes made a → P a
Makes-allowed (Ok reply) P p a e = subst P (sym e) p
Makes-allowed (Err (Refused reply)) P p a e = subst P (sym e) p
Makes-allowed (Err Memory) P p a e = absurd e
