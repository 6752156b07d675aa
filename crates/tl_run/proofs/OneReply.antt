-- The samples that are asked for are one answer: no other text, and no other status, is allowed. So is a summary.
use Rattle.std.proofs.Common.{◌≡◌, inl, inr, ℕ, ◌+◌, ◌≤◌, Some, List, [], ◌∷◌, ◌++◌, length, refl, sym, ◌∙◌, ap, subst, arith, codes}
use Rattle.std.specs.Prelude.{decimal}
use Rattle.tl_bits.specs.Bits.{bits_of}
use Rattle.tl_definitions.specs.declared.Tile.{Tile}
use Rattle.tl_definitions.specs.Accepted.{Accepted}
use Rattle.tl_definitions.specs.Flip.{IsFlipDistance}
use Rattle.tl_definitions.specs.Region.{Region}
use Rattle.tl_formats.specs.Texts.{line}
use Rattle.tl_lawful.proofs.Stated.{one-bottom, one-top}
use Rattle.tl_samples.proofs.Samples.{sample-one, sample-one_start, sample-not_late}
use Rattle.tl_text.specs.SampleLine.{sample_line}
use Rattle.tl_text.specs.declared.SampleJob.{SampleJob}
use Rattle.tl_run.specs.Answers.{Answer}
use Rattle.tl_run.specs.Decide.{IsBlocked}
use Rattle.tl_outcomes.specs.Entries.{Entry, Entries, Texts, on_time, OfOutcome, IsDrawn, DrawnEntries, IsRank, IsRanked, RankedEntries}
use Rattle.tl_run.specs.InEntries.{AreEntries, told_entries, IsInEntries}
use Rattle.tl_run.specs.Samples.{AreSamples}
use Rattle.tl_run.specs.Summary.{counts_text, IsSpan, IsSummaryHead, IsSummary}

-- ---- entries

one-list : (P : Entries) (n : ℕ) (ps qs : List Entry) → ((m : ℕ) (p q : Entry) → P m p → P m q → p ≡ q) → length ps ≡ length qs → AreEntries P n ps → AreEntries P n qs
    → ps ≡ qs
one-list P n [] [] one e a b = refl
one-list P n [] (q ∷ qs) one e a b = absurd (omega (arith, e))
one-list P n (p ∷ ps) [] one e a b = absurd (omega (arith, e))
one-list P n (p ∷ ps) (q ∷ qs) one e a b =
    ap (λ (x : Entry). x ∷ ps) (one n p q a.0 b.0) ∙ ap (λ (xs : List Entry). q ∷ xs) (one-list P (n + 1) ps qs one (omega (arith, e)) a.1 b.1)

one-told : (P : Entries) (head : List ℕ) (count : ℕ) (a b : Answer) → ((m : ℕ) (p q : Entry) → P m p → P m q → p ≡ q) → IsInEntries P head count a
    → IsInEntries P head count b → a ≡ b
one-told P head count a b one s t =
    s.is ∙ ap (told_entries head) (one-list P 0 s.entries t.entries one (s.count_is ∙ sym t.count_is) s.each t.each) ∙ sym t.is

-- Where a start and a sample have one text, a number has one entry.
one-entry : (R : Region) (job : SampleJob) (Text : Texts) → ((n T : ℕ) (S : List Tile) (l m : List ℕ) → Text n T S l → Text n T S m → l ≡ m)
    → (n : ℕ) (p q : Entry) → OfOutcome R job Text n p → OfOutcome R job Text n q → p ≡ q
one-entry R job Text one n p q (inl (T, S, s, l, is, e)) (inl (U, V, t, m, are, f)) =
    let start : T ≡ U = sample-one_start R (bits_of R job.seed n) job.bound T U S V s t in
    let sample : S ≡ V = sample-one R (bits_of R job.seed n) job.bound T U S V s t in
    let moved : Text n U V l = subst (λ (A : List Tile). Text n U A l) sample (subst (λ (k : ℕ). Text n k S l) start is) in
    e ∙ ap on_time (one n U V l m moved are) ∙ sym f
one-entry R job Text one n p q (inl (T, S, s, l, is, e)) (inr (late, f)) = absurd (sample-not_late R (bits_of R job.seed n) job.bound T S s late)
one-entry R job Text one n p q (inr (late, e)) (inl (T, S, s, l, is, f)) = absurd (sample-not_late R (bits_of R job.seed n) job.bound T S s late)
one-entry R job Text one n p q (inr (late, e)) (inr (also, f)) = e ∙ sym f

-- ---- samples

pub one-reply : (R : Region) (job : SampleJob) (a b : Answer) → AreSamples R job a → AreSamples R job b → a ≡ b
one-reply R job a b s t =
    one-told (DrawnEntries R job) [] job.count a b (one-entry R job (IsDrawn R) (λ n T S l m is are. is ∙ sym are)) s.1 t.1

-- and where there are samples there is no reason for having none
no-reason : (R : Region) (job : SampleJob) (a b : Answer) → AreSamples R job a → IsBlocked R b → ⊥
no-reason R job a b s (o, reason, is) = reason.no_tiling s.0.0 s.0.1

-- ---- a summary

both_least : (m n : ℕ) → m ≤ n → n ≤ m → m ≡ n
both_least m n p q = omega (arith, p, q)

one-distance : (R : Region) (A B : List Tile) (m n : ℕ) → IsFlipDistance R A B m → IsFlipDistance R A B n → m ≡ n
one-distance R A B m n (path, shortest, long) (other, least, short) =
    sym long ∙ both_least (length path) (length other) (shortest.least other least.leads) (least.least path shortest.leads) ∙ short

module _ (R : Region) (accepted : Accepted R) where
  one-rank : (S : List Tile) (m n : ℕ) → IsRank R S m → IsRank R S n → m ≡ n
  one-rank S m n (A, low, d) (B, bottom, e) =
      one-distance R B S m n (subst (λ (C : List Tile). IsFlipDistance R C S m) (one-bottom R accepted A B low bottom) d) e

  one-span : (m n : ℕ) → IsSpan R m → IsSpan R n → m ≡ n
  one-span m n (A, high, r) (B, top, s) = one-rank B m n (subst (λ (C : List Tile). IsRank R C m) (one-top R accepted A B high top) r) s

  one-head : (l m : List ℕ) → IsSummaryHead R l → IsSummaryHead R m → l ≡ m
  one-head l m (j, span, e) (k, other, f) = e ∙ ap (λ (n : ℕ). counts_text R ++ line (codes "span" ∷ decimal n ∷ [])) (one-span j k span other) ∙ sym f

  one-line : (n T : ℕ) (S : List Tile) (l m : List ℕ) → IsRanked R n T S l → IsRanked R n T S m → l ≡ m
  one-line n T S l m (j, rank, e) (k, other, f) = e ∙ ap (λ (r : ℕ). sample_line n (Some T) (Some r)) (one-rank S j k rank other) ∙ sym f

  pub one-summary : (job : SampleJob) (a b : Answer) → IsSummary R job a → IsSummary R job b → a ≡ b
  one-summary job a b (l, head, s) (m, other, t) =
      one-told (RankedEntries R job) m job.count a b (one-entry R job (IsRanked R) one-line)
      (subst (λ (k : List ℕ). IsInEntries (RankedEntries R job) k job.count a) (one-head l m head other) s) t
