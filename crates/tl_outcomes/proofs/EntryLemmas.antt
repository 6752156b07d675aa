-- Each number has an entry, and what a drawer draws and notes is one.
use Rattle.std.proofs.Common.{◌≡◌, inl, inr, ℕ, Bool, true, false, Some, None, List, ◌++◌, refl, sym, ◌∙◌, ap, subst}
use Rattle.std.specs.Prelude.{◌⊎◌, MatchBool, IsTrue}
use Rattle.tl_bits.specs.Bits.{bits_of}
use Rattle.tl_chain.specs.declared.Drawn.{Drawn}
use Rattle.tl_chain.specs.declared.Drawn.TheVariants.{At, Late}
use Rattle.tl_closing.proofs.Stated.{has-heights}
use Rattle.tl_definitions.specs.declared.Tile.{Tile}
use Rattle.tl_definitions.specs.Accepted.{Accepted, IsPlaced}
use Rattle.tl_definitions.specs.Flip.{IsBottom}
use Rattle.tl_definitions.specs.Region.{Region}
use Rattle.tl_definitions.specs.Sweep.{IsSample, IsLate}
use Rattle.tl_definitions.specs.Tiling.{HasTiling, is_tiling}
use Rattle.tl_extreme.specs.Verdicts.{AreBottomHeights, AreTopHeights}
use Rattle.tl_flip.specs.Flips.{IsDistanceBetween}
use Rattle.tl_formats.specs.Drawing.{drawing}
use Rattle.tl_height.specs.HeightFunction.{HeightFunction}
use Rattle.tl_height.specs.Letters.{IsDrawnFrom}
use Rattle.tl_lawful.proofs.Stated.{distance}
use Rattle.tl_sampler.specs.Drawn.{AreHeightsOfSample}
use Rattle.tl_samples.proofs.Samples.{sample-or-late}
use Rattle.tl_text.specs.SampleLine.{sample_line}
use Rattle.tl_text.specs.declared.SampleJob.{SampleJob}
use Rattle.tl_outcomes.specs.declared.draw_job.DrawJob.{DrawJob}
use Rattle.tl_outcomes.specs.declared.noted.Noted.{Noted}
use Rattle.tl_outcomes.specs.declared.noted.Noted.TheVariants.{Drawing, Rank}
use Rattle.tl_outcomes.specs.Entries.{Entry, on_time, too_late, Texts, OfOutcome, IsDrawn, DrawnEntries, IsRank, IsRanked, RankedEntries}
use Rattle.tl_outcomes.specs.Notes.{IsNoteOf}
use Rattle.tl_outcomes.specs.Outcomes.{EntriesOf, entry_of, is_rank, noted_text}

-- ---- each number has an entry

-- where each tiling has a text
pub some-entry : (R : Region) (job : SampleJob) (Text : Texts) → IsPlaced R → HasTiling R
    → ((n T : ℕ) (S : List Tile) → IsTrue (is_tiling R S) → (text : List ℕ) × Text n T S text) → (n : ℕ) → (e : Entry) × OfOutcome R job Text n e
some-entry R job Text placed some texts n = go (sample-or-late R (bits_of R job.seed n) job.bound placed some)
  where
    go : ((T : ℕ) × (S : List Tile) × IsSample R (bits_of R job.seed n) job.bound T S) ⊎ IsLate R (bits_of R job.seed n) job.bound
        → (e : Entry) × OfOutcome R job Text n e
    go (inl (T, S, s)) = let (text, is) = texts n T S s.tiling in (on_time text, inl (T, S, s, text, is, refl))
    go (inr l) = (too_late n, inr (l, refl))

pub some-drawn : (R : Region) (job : SampleJob) → IsPlaced R → HasTiling R → (n : ℕ) → (e : Entry) × DrawnEntries R job n e
some-drawn R job placed some =
    some-entry R job (IsDrawn R) placed some (λ n T S tiling. (sample_line n (Some T) None ++ drawing R S, refl))

-- each tiling has a rank
has-rank : (R : Region) (B S : List Tile) → Accepted R → IsBottom R B → IsTrue (is_tiling R S) → (rank : ℕ) × IsRank R S rank
has-rank R B S accepted bottom tiling =
    let (low, low_heights, low_only) = has-heights R B accepted bottom.tiling in
    let (here, heights, only) = has-heights R S accepted tiling in
    let (n, gap, least) = distance R S here accepted tiling heights B low bottom.tiling low_heights in
    (n, (B, bottom, least))

pub some-ranked : (R : Region) (low : HeightFunction) → AreBottomHeights R low → (job : SampleJob) → Accepted R → (n : ℕ)
    → (e : Entry) × RankedEntries R job n e
some-ranked R low b job accepted =
    some-entry R job (IsRanked R) accepted.placed (b.tiles, b.bottom.tiling)
    (λ n T S tiling. let (rank, is) = has-rank R b.tiles S accepted b.bottom tiling in (sample_line n (Some T) (Some rank), (rank, is, refl)))

pub some-of : (draw : DrawJob) (low : HeightFunction) → AreBottomHeights draw.region low → Accepted draw.region → (n : ℕ)
    → (e : Entry) × EntriesOf draw n e
some-of draw low b accepted n = go draw.is_ranked
  where
    go : (ranked : Bool) → (e : Entry) × MatchBool ranked (RankedEntries draw.region draw.job n e) (DrawnEntries draw.region draw.job n e)
    go true = some-ranked draw.region low b draw.job accepted n
    go false = some-drawn draw.region draw.job accepted.placed (b.tiles, b.bottom.tiling) n

-- ---- heights of a region, as heights of their own region

pub own-bottom : (R : Region) (low : HeightFunction) → AreBottomHeights R low → AreBottomHeights low.region low
own-bottom R low b = subst (λ (Q : Region). AreBottomHeights Q low) (sym b.region) b

pub own-top : (R : Region) (low high : HeightFunction) → AreBottomHeights R low → AreTopHeights R high → AreTopHeights low.region high
own-top R low high b t = subst (λ (Q : Region). AreTopHeights Q high) (sym b.region) t

-- ---- what is drawn and noted

-- the drawing of a sample is that of the heights that were drawn
pub drawing-of : (R : Region) (bits : ℕ → ℕ → Bool) (bound T : ℕ) (h : HeightFunction) (text : List ℕ) → (s : AreHeightsOfSample R bits bound T h)
    → h.region ≡ R → IsDrawnFrom h.region h.numbers text → text ≡ drawing R s.tiles
drawing-of R bits bound T h text s same d = go (subst (λ (Q : Region). IsDrawnFrom Q h.numbers text) same d)
  where
    go : IsDrawnFrom R h.numbers text → text ≡ drawing R s.tiles
    go d = d.drawn ∙ ap (drawing R) (sym (d.only s.tiles s.sample.tiling s.heights))

-- its rank is its distance from the bottom heights
pub rank-told : (R : Region) (low : HeightFunction) → AreBottomHeights R low → (bits : ℕ → ℕ → Bool) (bound T : ℕ) (h : HeightFunction) (rank : ℕ)
    → (s : AreHeightsOfSample R bits bound T h) → IsDistanceBetween low.region low.numbers h.numbers rank → IsRank R s.tiles rank
rank-told R low b bits bound T h rank s d = (
  b.tiles,
  b.bottom,
  subst (λ (Q : Region). IsDistanceBetween Q low.numbers h.numbers rank) b.region d b.tiles s.tiles (b.bottom.tiling, b.heights) (s.sample.tiling, s.heights),
)

module _ (draw : DrawJob) (n : ℕ) where
  abbrev Told : Bool → Entry → Type 0
  Told ranked e = MatchBool ranked (RankedEntries draw.region draw.job n e) (DrawnEntries draw.region draw.job n e)

  pub late-entry : IsLate draw.region (bits_of draw.region draw.job.seed n) draw.job.bound → EntriesOf draw n (too_late n)
  late-entry l = go draw.is_ranked
    where
      go : (ranked : Bool) → Told ranked (too_late n)
      go true = inr (l, refl)
      go false = inr (l, refl)

  pub noted-entry : (low h : HeightFunction) (T : ℕ) (noted : Noted) → is_rank noted ≡ draw.is_ranked → AreBottomHeights draw.region low
      → h.region ≡ draw.region → AreHeightsOfSample draw.region (bits_of draw.region draw.job.seed n) draw.job.bound T h → IsNoteOf low h noted
      → EntriesOf draw n (on_time (noted_text n T noted))
  noted-entry low h T (Drawing letters) kind b same s note =
      subst (λ (ranked : Bool). Told ranked (on_time (noted_text n T (Drawing letters)))) kind
      (inl (
        T,
        s.tiles,
        s.sample,
        noted_text n T (Drawing letters),
        ap (λ (l : List ℕ). sample_line n (Some T) None ++ l) (drawing-of draw.region (bits_of draw.region draw.job.seed n) draw.job.bound T h letters.items s same note),
        refl,
      ))
  noted-entry low h T (Rank rank) kind b same s note =
      subst (λ (ranked : Bool). Told ranked (on_time (noted_text n T (Rank rank)))) kind
      (inl (
        T,
        s.tiles,
        s.sample,
        noted_text n T (Rank rank),
        (rank, rank-told draw.region low b (bits_of draw.region draw.job.seed n) draw.job.bound T h rank s note, refl),
        refl,
      ))

  -- what was drawn and noted has such an entry
  pub filled-late : (drawn : Drawn) (noted : Noted) → drawn ≡ Late → IsLate draw.region (bits_of draw.region draw.job.seed n) draw.job.bound
      → EntriesOf draw n (entry_of drawn noted n)
  filled-late drawn noted e l = subst (λ (d : Drawn). EntriesOf draw n (entry_of d noted n)) (sym e) (late-entry l)

  pub filled-at : (low h : HeightFunction) (T : ℕ) (drawn : Drawn) (noted : Noted) → drawn ≡ At T → is_rank noted ≡ draw.is_ranked
      → AreBottomHeights draw.region low → h.region ≡ draw.region
      → AreHeightsOfSample draw.region (bits_of draw.region draw.job.seed n) draw.job.bound T h → IsNoteOf low h noted
      → EntriesOf draw n (entry_of drawn noted n)
  filled-at low h T drawn noted e kind b same s note =
      subst (λ (d : Drawn). EntriesOf draw n (entry_of d noted n)) (sym e) (noted-entry low h T noted kind b same s note)
