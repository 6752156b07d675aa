-- What the program answers to words and an input: a line for each command.
use Rattle.std.specs.Prelude.{ℕ, Bool, true, false, not, ◌&&◌, ◌||◌, ◌==◌, List, Some, None}
use Rattle.tl_text.specs.declared.Command.{Command}
use Rattle.tl_text.specs.declared.Command.TheVariants.{Check, Decide, Refute, Flips, Distance, Sample, Gen}
use Rattle.tl_text.specs.declared.SampleJob.{SampleJob}
use Rattle.tl_text.specs.Words.{command}
use Rattle.tl_run.specs.Answers.{Allows, Is}
use Rattle.tl_run.specs.Refusals.{usage}
use Rattle.tl_run.specs.Readers.{OfInput}
use Rattle.tl_run.specs.Check.{CheckReply}
use Rattle.tl_run.specs.Decide.{DecideReply}
use Rattle.tl_run.specs.Flips.{FlipsReply, DistanceReply}
use Rattle.tl_run.specs.Generate.{GenReply}
use Rattle.tl_run.specs.Refute.{RefuteReply}
use Rattle.tl_run.specs.Samples.{SampleReply}

-- How words are answered: without an input, or by what their input says.
pub data Meaning : Type 1 where
  WithoutInput : Allows → Meaning
  ByInput : (List ℕ → Allows) → Meaning

abbrev pub meaning_of : Command → Meaning
meaning_of Check = ByInput CheckReply
meaning_of Decide = ByInput DecideReply
meaning_of Refute = ByInput RefuteReply
meaning_of Flips = ByInput FlipsReply
meaning_of Distance = ByInput DistanceReply
meaning_of (Sample job) = ByInput (SampleReply job)
meaning_of (Gen gen) = WithoutInput (GenReply gen)

-- what the words ask for; words that are no command are answered with the usage
abbrev pub asked : List (List ℕ) → Meaning
asked words = elim (command words) [ None ↦ WithoutInput (Is usage) | Some c ↦ meaning_of c ]

abbrev pub reads_input : Meaning → Bool
reads_input (ByInput P) = true
reads_input _ = false

-- the answers to an input
abbrev pub Answers : Meaning → List ℕ → Allows
Answers (WithoutInput P) input = P
Answers (ByInput P) input = OfInput input (P input)

-- The answer is one to the words and the input.
abbrev pub Reply : List (List ℕ) → List ℕ → Allows
Reply words input = Answers (asked words) input

-- ---- before the first byte

abbrev pub draws_alone : SampleJob → Bool
draws_alone job = job.workers == 1 && job.bands == 1

-- Whether all memory is taken before the first byte of the reply is written: always but where samples are drawn by
-- several workers or in several bands.
abbrev pub takes_memory_first : Command → Bool
takes_memory_first (Sample job) = draws_alone job
takes_memory_first (Gen gen) = not gen.summary || draws_alone gen.job
takes_memory_first _ = true

abbrev pub is_silent : List (List ℕ) → Bool
is_silent words = elim (command words) [ None ↦ true | Some c ↦ takes_memory_first c ]
