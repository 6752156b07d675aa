-- The statuses of what each command is answered with: a line for each.
use Rattle.std.proofs.Common.{◌≡◌, ℕ, Bool, true, false, List, [], ◌++◌, length, refl, inl, inr}
use Rattle.std.specs.Prelude.{nat_lt, if◌then◌else◌, MatchBool}
use Rattle.std.specs.List.{list_any}
use Rattle.tl_definitions.specs.declared.Tile.{Tile}
use Rattle.tl_definitions.specs.Region.{Region}
use Rattle.tl_definitions.specs.Obstruction.{Obstruction}
use Rattle.tl_text.specs.declared.Command.{Command}
use Rattle.tl_text.specs.Shapes.{shape_text}
use Rattle.tl_text.specs.declared.GenJob.{GenJob}
use Rattle.tl_text.specs.declared.SampleJob.{SampleJob}
use Rattle.tl_text.specs.declared.Command.TheVariants.{Check, Decide, Refute, Flips, Distance, Sample, Gen}
use Rattle.tl_flip.specs.declared.shortest.TheConstants.{FLIP_LIMIT}
use Rattle.tl_formats.specs.Drawing.{DrawingRefusal, bad_letter, unmatched}
use Rattle.tl_run.specs.Answers.{Answer, answer, Allows, Is}
use Rattle.tl_run.specs.Refusals.{check_refused, drawing_refused}
use Rattle.tl_run.specs.Readers.{OfDrawing, AtEnd}
use Rattle.tl_run.specs.Check.{yes, DrawingReply, CheckReply}
use Rattle.tl_run.specs.Decide.{tiled, blocked, Decided, RegionReply, DecideReply}
use Rattle.tl_run.specs.Flips.{TwoDrawings, flips_text, too_long, told_path, IsPathAnswer, FlipsReply, told_distance, IsDistanceAnswer, DistanceReply}
use Rattle.tl_run.specs.Refute.{refuted, not_refuted, Judged, ReasonReply, RefuteReply}
use Rattle.tl_run.specs.declared.sample.TheConstants.{SAMPLES_LIMIT}
use Rattle.tl_run.specs.Samples.{samples_size, too_large as samples_too_large, WithinLimit, OfSampled, Sampled, SampleReply}
use Rattle.tl_run.specs.Generate.{ShapeReply, GenReply}
use Rattle.tl_outcomes.specs.Entries.{Entries, DrawnEntries, RankedEntries}
use Rattle.tl_run.specs.InEntries.{IsInEntries, entries_text, told_entries}
use Rattle.tl_run.specs.Summary.{counts_text, reason_line, Summarized, SummaryReply}
use Rattle.tl_run.specs.Replies.{meaning_of, reads_input, Answers}
use Rattle.tl_run.proofs.ReaderLemmas.{IsHeard, Is-heard, OfInput-heard, OfRegion-heard, OfDrawing-heard, OfObstruction-heard, AtEnd-heard}

-- ---- check

check_refused-heard : (f : DrawingRefusal) → IsHeard (check_refused f)
check_refused-heard (bad_letter a) = refl
check_refused-heard (unmatched a) = refl

CheckReply-heard : (input : List ℕ) (a : Answer) → CheckReply input a → IsHeard a
CheckReply-heard input a =
    OfRegion-heard input DrawingReply a
    (λ R rest. OfDrawing-heard check_refused R rest (λ A end. AtEnd end (Is yes)) a check_refused-heard (λ A end. AtEnd-heard end (Is yes) a (Is-heard yes a refl)))

-- ---- decide

Decided-heard : (R : Region) (a : Answer) → Decided R a → IsHeard a
Decided-heard R a (inl (A, top, e)) = Is-heard (tiled R A) a refl e
Decided-heard R a (inr (o, reason, e)) = Is-heard (blocked o) a refl e

DecideReply-heard : (input : List ℕ) (a : Answer) → DecideReply input a → IsHeard a
DecideReply-heard input a = OfRegion-heard input RegionReply a (λ R rest. AtEnd-heard rest (Decided R) a (Decided-heard R a))

-- ---- refute

Judged-heard : (R : Region) (o : Obstruction) (a : Answer) → Judged R o a → IsHeard a
Judged-heard R o a (inl (h, e)) = Is-heard refuted a refl e
Judged-heard R o a (inr (h, e)) = Is-heard not_refuted a refl e

RefuteReply-heard : (input : List ℕ) (a : Answer) → RefuteReply input a → IsHeard a
RefuteReply-heard input a =
    OfRegion-heard input ReasonReply a
    (λ R rest. OfObstruction-heard rest (λ o end. AtEnd end (Judged R o)) a (λ o end. AtEnd-heard end (Judged R o) a (Judged-heard R o a)))

-- ---- flips and distance

TwoDrawings-heard : (R : Region) (bytes : List ℕ) (P : List Tile → List Tile → Allows) (a : Answer) → ((A B : List Tile) → P A B a → IsHeard a)
    → TwoDrawings R bytes P a → IsHeard a
TwoDrawings-heard R bytes P a next =
    OfDrawing-heard (drawing_refused 1) R bytes (λ A rest. OfDrawing (drawing_refused 2) R rest (λ B end. AtEnd end (P A B))) a (refused-heard 1)
    (λ A rest. OfDrawing-heard (drawing_refused 2) R rest (λ B end. AtEnd end (P A B)) a (refused-heard 2)
    (λ B end. AtEnd-heard end (P A B) a (next A B)))
  where
    refused-heard : (n : ℕ) (f : DrawingRefusal) → IsHeard (drawing_refused n f)
    refused-heard n f = refl

IsPathAnswer-heard : (R : Region) (A B : List Tile) (a : Answer) → IsPathAnswer R A B a → IsHeard a
IsPathAnswer-heard R A B a (path, shortest, e) = Is-heard (told_path path) a (told (nat_lt FLIP_LIMIT (length path))) e
  where
    told : (b : Bool) → IsHeard (if b then too_long (length path) else answer (flips_text path) 0)
    told true = refl
    told false = refl

IsDistanceAnswer-heard : (R : Region) (A B : List Tile) (a : Answer) → IsDistanceAnswer R A B a → IsHeard a
IsDistanceAnswer-heard R A B a (n, distance, e) = Is-heard (told_distance n) a refl e

FlipsReply-heard : (input : List ℕ) (a : Answer) → FlipsReply input a → IsHeard a
FlipsReply-heard input a =
    OfRegion-heard input (λ R rest. TwoDrawings R rest (IsPathAnswer R)) a
    (λ R rest. TwoDrawings-heard R rest (IsPathAnswer R) a (λ A B. IsPathAnswer-heard R A B a))

DistanceReply-heard : (input : List ℕ) (a : Answer) → DistanceReply input a → IsHeard a
DistanceReply-heard input a =
    OfRegion-heard input (λ R rest. TwoDrawings R rest (IsDistanceAnswer R)) a
    (λ R rest. TwoDrawings-heard R rest (IsDistanceAnswer R) a (λ A B. IsDistanceAnswer-heard R A B a))

-- ---- sample

OfSampled-heard : (job : SampleJob) (text : List ℕ) (P : Region → Allows) (a : Answer) → ((R : Region) → P R a → IsHeard a) → OfSampled job text P a → IsHeard a
OfSampled-heard job text P a next =
    OfRegion-heard text (λ R rest. AtEnd rest (WithinLimit R job (P R))) a
    (λ R rest. AtEnd-heard rest (WithinLimit R job (P R)) a (go R (nat_lt SAMPLES_LIMIT (samples_size R job))))
  where
    go : (R : Region) (b : Bool) → MatchBool b (Is (samples_too_large (samples_size R job)) a) (P R a) → IsHeard a
    go R true e = Is-heard (samples_too_large (samples_size R job)) a refl e
    go R false q = next R q

IsInEntries-heard : (P : Entries) (head : List ℕ) (count : ℕ) (a : Answer) → IsInEntries P head count a → IsHeard a
IsInEntries-heard P head count a s = Is-heard (told_entries head s.entries) a (go (list_any (λ p. p.is_late) s.entries)) s.is
  where
    go : (b : Bool) → IsHeard (answer (head ++ entries_text s.entries) (if b then 7 else 0))
    go true = refl
    go false = refl

Sampled-heard : (R : Region) (job : SampleJob) (a : Answer) → Sampled R job a → IsHeard a
Sampled-heard R job a (inl (some, s)) = IsInEntries-heard (DrawnEntries R job) [] job.count a s
Sampled-heard R job a (inr (o, reason, e)) = Is-heard (blocked o) a refl e

SampleReply-heard : (job : SampleJob) (input : List ℕ) (a : Answer) → SampleReply job input a → IsHeard a
SampleReply-heard job input a = OfSampled-heard job input (λ R. Sampled R job) a (λ R. Sampled-heard R job a)

-- ---- gen

Summarized-heard : (R : Region) (job : SampleJob) (a : Answer) → Summarized R job a → IsHeard a
Summarized-heard R job a (inl (head, is, s)) = IsInEntries-heard (RankedEntries R job) head job.count a s
Summarized-heard R job a (inr (o, reason, e)) = Is-heard (answer (counts_text R ++ reason_line o) 1) a refl e

GenReply-heard : (gen : GenJob) (a : Answer) → GenReply gen a → IsHeard a
GenReply-heard gen a = go gen.summary
  where
    go : (b : Bool) → MatchBool b (SummaryReply gen a) (ShapeReply gen a) → IsHeard a
    go true p = OfSampled-heard gen.job (shape_text gen.shape gen.order) (λ R. Summarized R gen.job) a (λ R. Summarized-heard R gen.job a) p
    go false p = Is-heard (answer (shape_text gen.shape gen.order) 0) a refl p

-- ---- all commands

-- every command but `gen` reads its input
pub reads-unless_gen : (c : Command) → ((gen : GenJob) → c ≡ Gen gen → ⊥) → reads_input (meaning_of c) ≡ true
reads-unless_gen Check other = refl
reads-unless_gen Decide other = refl
reads-unless_gen Refute other = refl
reads-unless_gen Flips other = refl
reads-unless_gen Distance other = refl
reads-unless_gen (Sample job) other = refl
reads-unless_gen (Gen gen) other = absurd (other gen refl)

-- no command is answered with the status of a failed read
pub Answers-heard : (c : Command) (input : List ℕ) (a : Answer) → Answers (meaning_of c) input a → IsHeard a
Answers-heard Check input a = OfInput-heard input (CheckReply input) a (CheckReply-heard input a)
Answers-heard Decide input a = OfInput-heard input (DecideReply input) a (DecideReply-heard input a)
Answers-heard Refute input a = OfInput-heard input (RefuteReply input) a (RefuteReply-heard input a)
Answers-heard Flips input a = OfInput-heard input (FlipsReply input) a (FlipsReply-heard input a)
Answers-heard Distance input a = OfInput-heard input (DistanceReply input) a (DistanceReply-heard input a)
Answers-heard (Sample job) input a = OfInput-heard input (SampleReply job input) a (SampleReply-heard job input a)
Answers-heard (Gen gen) input a = GenReply-heard gen a
