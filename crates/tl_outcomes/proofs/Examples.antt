-- What entries the samples of a region with one tiling have, and which they haven't.
use Rattle.std.proofs.Common.{◌≡◌, inl, inr, ℕ, ◌<◌, ◌≤◌, Bool, true, false, List, [], ◌∷◌, ◌++◌, length, refl, sym, ◌∙◌, ap, subst, arith, codes}
use Rattle.std.specs.Prelude.{IsTrue, slice_get, Vec}
use Rattle.std.specs.declared.alloc.Global.{Global}
use Rattle.std.specs.Fmt.{digits}
use Rattle.std.proofs.lemmas.Option.{slice_get_within}
use Rattle.tl_bits.specs.Bits.{bits_of}
use Rattle.tl_chain.specs.declared.Drawn.{Drawn}
use Rattle.tl_chain.specs.declared.Drawn.TheVariants.{At, Late}
use Rattle.tl_definitions.specs.declared.Kind.TheVariants.{Square}
use Rattle.tl_definitions.specs.declared.Tile.{Tile}
use Rattle.tl_definitions.specs.Heights.{AreHeights}
use Rattle.tl_definitions.specs.Region.{Region}
use Rattle.tl_definitions.specs.Sweep.{IsSample}
use Rattle.tl_definitions.specs.Tiling.{is_tiling}
use Rattle.tl_formats.specs.RegionText.{region_of}
use Rattle.tl_formats.specs.Texts.{line}
use Rattle.tl_formats.proofs.Cases.{drawn as drawn_tiles, gathers_from}
use Rattle.tl_height.specs.HeightFunction.{HeightFunction}
use Rattle.tl_lists.proofs.Tests.{some_same}
use Rattle.tl_samples.proofs.Samples.{sample-not_late}
use Rattle.tl_text.specs.declared.SampleJob.{SampleJob}
use Rattle.tl_outcomes.specs.declared.draw_job.DrawJob.{DrawJob}
use Rattle.tl_outcomes.specs.declared.noted.Noted.{Noted}
use Rattle.tl_outcomes.specs.declared.noted.Noted.TheVariants.{Drawing, Rank}
use Rattle.tl_outcomes.specs.declared.outcome.Outcome.{Outcome}
use Rattle.tl_outcomes.specs.Entries.{Entry, on_time, too_late, IsDrawn, DrawnEntries, IsRank, RankedEntries}
use Rattle.tl_outcomes.specs.Notes.{IsNoteOf}
use Rattle.tl_outcomes.specs.Outcomes.{EntriesOf, entry_of, AreOutcomesOf, HasRoom, IsWithin}

abbrev domino : Region
domino = region_of Square (codes "##" ∷ [])

abbrev level : List Tile
level = drawn_tiles domino (codes "><" ∷ [])

only_level : (A : List Tile) → IsTrue (is_tiling domino A) → A ≡ level
only_level A t = gathers_from domino (λ t i. false) 0 level refl (refl, tt) A t

-- there is nothing to sweep, and so the first start gathers
sample_domino : (bits : ℕ → ℕ → Bool) → IsSample domino bits 0 1 level
sample_domino bits = record {
  start = record {
    exponent = 0;
    power = refl;
    within = omega arith;
    holds = λ A B p q. gathers_from domino bits 1 level refl (refl, tt) A p ∙ sym (gathers_from domino bits 1 level refl (refl, tt) B q);
    least = λ k h. absurd (omega (arith, h));
  };
  tiling = refl;
  common = gathers_from domino bits 1 level refl (refl, tt);
}

-- ---- jobs

abbrev two : SampleJob
two = record { seed = 7; count = 2; bound = 0; workers = 1; bands = 1 }

two_within : IsWithin two
two_within = record { bound = omega arith; some = omega arith; count = omega arith; worked = omega arith; workers = omega arith }

-- with a bound over 30
two_far : IsWithin (record two { bound = 31 }) → ⊥
two_far w = omega (arith, w.bound)

-- ---- drawings

abbrev first_text : List ℕ
first_text = line (codes "sample 0 start 1" ∷ []) ++ line (codes "><" ∷ [])

drawn_first : DrawnEntries domino two 0 (on_time first_text)
unfolding digits
drawn_first = inl (1, level, sample_domino (bits_of domino 7 0), first_text, refl, refl)

-- told as late
drawn_first-late : DrawnEntries domino two 0 (too_late 0) → ⊥
drawn_first-late (inl (T, S, s, text, is, e)) = cc (ap (λ (e : Entry). e.is_late) e)
drawn_first-late (inr (late, e)) = sample-not_late domino (bits_of domino 7 0) 0 1 level (sample_domino (bits_of domino 7 0)) late

-- as drawing without a head line
drawn_first-headless : IsDrawn domino 0 1 level (line (codes "><" ∷ [])) → ⊥
unfolding digits
drawn_first-headless e = let size : 3 ≡ 20 = ap (λ (l : List ℕ). length l) e in cc size

-- ---- ranks

rank_level : IsRank domino level 0
rank_level = (level, record { tiling = refl; none_high = refl }, ([], record { leads = refl; least = λ other p. omega arith }, refl))

rank_level-one : IsRank domino level 1 → ⊥
rank_level-one (B, bottom, (path, shortest, long)) =
    let none : length path ≤ 0 = shortest.least [] (only_level B bottom.tiling) in
    omega (arith, none, long)

abbrev ranked_text : List ℕ
ranked_text = line (codes "sample 1 start 1 rank 0" ∷ [])

ranked_second : RankedEntries domino two 1 (on_time ranked_text)
unfolding digits
ranked_second = inl (1, level, sample_domino (bits_of domino 7 1), ranked_text, (0, rank_level, refl), refl)

ranked_second-late : RankedEntries domino two 1 (too_late 1) → ⊥
ranked_second-late (inl (T, S, s, text, is, e)) = cc (ap (λ (e : Entry). e.is_late) e)
ranked_second-late (inr (late, e)) = sample-not_late domino (bits_of domino 7 1) 0 1 level (sample_domino (bits_of domino 7 1)) late

-- ---- entries of a job

abbrev drawing_job : DrawJob
drawing_job = record { region = domino; job = two; is_ranked = false }

abbrev ranking_job : DrawJob
ranking_job = record { region = domino; job = two; is_ranked = true }

of_drawing_job : EntriesOf drawing_job 0 (on_time first_text)
of_drawing_job = drawn_first

of_ranking_job : EntriesOf ranking_job 1 (on_time ranked_text)
of_ranking_job = ranked_second

of_ranking_job-late : EntriesOf ranking_job 1 (too_late 1) → ⊥
of_ranking_job-late = ranked_second-late

-- ---- what is noted

-- the letters of the one row, with its line end
room_of_row : (letters : Vec ℕ Global) → length letters.items ≡ 3 → HasRoom domino (Drawing letters)
room_of_row letters e = e

-- without the line end
room_of_row-short : (letters : Vec ℕ Global) → length letters.items ≡ 2 → HasRoom domino (Drawing letters) → ⊥
room_of_row-short letters e room = omega (arith, e, room)

note_of_level : (h : HeightFunction) → h.region ≡ domino → IsNoteOf h h (Rank 0)
note_of_level h e A B a b = ([], record { leads = same; least = λ other p. omega arith }, refl)
  where
    one : (C : List Tile) → IsTrue (is_tiling h.region C) → C ≡ level
    one C t = only_level C (subst (λ (R : Region). IsTrue (is_tiling R C)) e t)

    same : A ≡ B
    same = one A a.0 ∙ sym (one B b.0)

note_of_level-one : (h : HeightFunction) → h.region ≡ domino → AreHeights domino level h.numbers → IsNoteOf h h (Rank 1) → ⊥
note_of_level-one h e heights note =
    let has : IsTrue (is_tiling h.region level) × AreHeights h.region level h.numbers =
    subst (λ (R : Region). IsTrue (is_tiling R level) × AreHeights R level h.numbers) (sym e) (refl, heights) in
    let (path, shortest, long) = note level level has has in
    let none : length path ≤ 0 = shortest.least [] refl in
    omega (arith, none, long)

-- ---- outcomes in the order of their numbers

abbrev one_job : DrawJob
one_job = record { region = domino; job = record two { count = 1 }; is_ranked = true }

abbrev first_ranked : List ℕ
first_ranked = line (codes "sample 0 start 1 rank 0" ∷ [])

ranked_first : EntriesOf one_job 0 (entry_of (At 1) (Rank 0) 0)
unfolding digits
ranked_first = inl (1, level, sample_domino (bits_of domino 7 0), first_ranked, (0, rank_level, refl), refl)

outcomes_of_one : (o : Outcome) → o.drawn ≡ At 1 → o.noted ≡ Rank 0 → AreOutcomesOf one_job (o ∷ [])
outcomes_of_one o drawn noted n p at =
    let near : n < 1 = slice_get_within (o ∷ []) n p at in
    let first : n ≡ 0 = omega (arith, near) in
    let same : o ≡ p = some_same o p (ap (λ (k : ℕ). slice_get (o ∷ []) k) (sym first) ∙ at) in
    subst (λ (k : ℕ). EntriesOf one_job k (entry_of p.drawn p.noted k)) (sym first)
    (subst (λ (q : Outcome). EntriesOf one_job 0 (entry_of q.drawn q.noted 0)) same
    (subst (λ (d : Drawn). EntriesOf one_job 0 (entry_of d o.noted 0)) (sym drawn)
    (subst (λ (m : Noted). EntriesOf one_job 0 (entry_of (At 1) m 0)) (sym noted) ranked_first)))

-- told as late
outcomes_of_one-late : (o : Outcome) → o.drawn ≡ Late → AreOutcomesOf one_job (o ∷ []) → ⊥
outcomes_of_one-late o drawn all =
    ranked-late (subst (λ (d : Drawn). EntriesOf one_job 0 (entry_of d o.noted 0)) drawn (all 0 o refl))
  where
    ranked-late : EntriesOf one_job 0 (too_late 0) → ⊥
    ranked-late (inl (T, S, s, text, is, e)) = cc (ap (λ (e : Entry). e.is_late) e)
    ranked-late (inr (late, e)) = sample-not_late domino (bits_of domino 7 0) 0 1 level (sample_domino (bits_of domino 7 0)) late
