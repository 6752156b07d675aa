-- The answers that replies of the code are.
use Rattle.std.specs.Prelude.{Result, Ok, Err}
use Rattle.std.specs.Cow.{cow_slice_items}
use Rattle.tl_run.specs.declared.reply.Reply.{Reply}
use Rattle.tl_run.specs.declared.reply.Stop.{Stop}
use Rattle.tl_run.specs.declared.reply.Stop.TheVariants.{Refused, Memory}
use Rattle.tl_run.specs.Answers.{Answer, answer, Allows, Is}
use Rattle.tl_run.specs.Statuses.{code_of}

abbrev pub answer_of : Reply → Answer
answer_of reply = answer (cow_slice_items reply.text) (code_of reply.status)

-- the answer of a refusal is allowed; want of memory has none
abbrev pub IfRefused : Stop → Allows → Type 0
IfRefused (Refused reply) P = P (answer_of reply)
IfRefused Memory P = Unit {0}

-- the answer that was made, or that of a refusal, is allowed
abbrev pub IfMade : Result Reply Stop → Allows → Type 0
IfMade (Ok reply) P = P (answer_of reply)
IfMade (Err stop) P = IfRefused stop P

-- the answers that were made: one, or none for want of memory
abbrev pub Makes : Result Reply Stop → Allows
Makes (Ok reply) = Is (answer_of reply)
Makes (Err (Refused reply)) = Is (answer_of reply)
Makes (Err Memory) = λ a. ⊥
