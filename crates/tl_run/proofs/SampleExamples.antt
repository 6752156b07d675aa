-- What meets the promise of `sample`, and what near it doesn't: two samples of a region with one tiling.
use Rattle.std.proofs.Common.{◌≡◌, inl, ℕ, Bool, List, [], ◌∷◌, ◌++◌, length, refl, sym, ◌∙◌, ap, arith, codes}
use Rattle.std.specs.Fmt.{digits}
use Rattle.tl_bits.specs.Bits.{bits_of}
use Rattle.tl_definitions.specs.declared.Kind.TheVariants.{Square}
use Rattle.tl_definitions.specs.declared.Tile.{Tile}
use Rattle.tl_definitions.specs.Region.{Region}
use Rattle.tl_definitions.specs.Sweep.{IsSample}
use Rattle.tl_formats.specs.RegionText.{region_of}
use Rattle.tl_formats.specs.Texts.{line}
use Rattle.tl_formats.proofs.Cases.{drawn as drawn_tiles, gathers_from}
use Rattle.tl_text.specs.declared.SampleJob.{SampleJob}
use Rattle.tl_run.specs.Answers.{Answer, answer}
use Rattle.tl_outcomes.specs.Entries.{on_time}
use Rattle.tl_run.specs.Samples.{AreSamples}
use Rattle.tl_run.proofs.OneReply.{one-reply}

abbrev domino : Region
domino = region_of Square (codes "##" ∷ [])

abbrev level : List Tile
level = drawn_tiles domino (codes "><" ∷ [])

-- there is nothing to sweep, and so the first start gathers
sample_domino : (bits : ℕ → ℕ → Bool) → IsSample domino bits 0 1 level
sample_domino bits = record {
  start = record {
    exponent = 0;
    power = refl;
    within = omega arith;
    holds = λ A B p q. gathers_from domino bits 1 level refl (refl, tt) A p ∙ sym (gathers_from domino bits 1 level refl (refl, tt) B q);
    least = λ k h. absurd (omega (arith, h));
  };
  tiling = refl;
  common = gathers_from domino bits 1 level refl (refl, tt);
}

abbrev two : SampleJob
two = record { seed = 7; count = 2; bound = 0; workers = 1; bands = 1 }

abbrev first_text : List ℕ
first_text = line (codes "sample 0 start 1" ∷ []) ++ line (codes "><" ∷ [])

abbrev second_text : List ℕ
second_text = line (codes "sample 1 start 1" ∷ []) ++ line (codes "><" ∷ [])

sampled_two : AreSamples domino two (answer (first_text ++ second_text) 0)
unfolding digits
sampled_two = (
  (level, refl),
  record {
    entries = on_time first_text ∷ on_time second_text ∷ [];
    count_is = refl;
    each = (
      inl (1, level, sample_domino (bits_of domino 7 0), first_text, refl, refl),
      (inl (1, level, sample_domino (bits_of domino 7 1), second_text, refl, refl), tt),
    );
    is = refl;
  },
)

-- the same with the status of late samples, or one sample alone
sampled_two-late : AreSamples domino two (answer (first_text ++ second_text) 7) → ⊥
sampled_two-late s = cc (ap (λ (a : Answer). a.status) (one-reply domino two _ _ s sampled_two))

sampled_one : AreSamples domino two (answer first_text 0) → ⊥
sampled_one s = let size : 20 ≡ 40 = ap (λ (a : Answer). length a.text) (one-reply domino two _ _ s sampled_two) in cc size
