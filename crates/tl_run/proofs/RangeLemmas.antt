-- The commands that words ask for keep to their ranges.
use Rattle.std.proofs.Common.{◌≡◌, ℕ, ◌≤◌, Bool, true, false, List, [], ◌∷◌, length, Option, Some, None, refl, subst, arith, codes}
use Rattle.std.specs.Prelude.{◌&&◌, nat_le, if◌then◌else◌, option_map, option_and_then, ◌==◌, IfSome}
use Rattle.std.specs.Str.{bytes_eq}
use Rattle.std.proofs.lemmas.Bool.{leb-true}
use Rattle.tl_formats.specs.Texts.{are_digits, number_of}
use Rattle.tl_text.specs.declared.Command.{Command}
use Rattle.tl_text.specs.declared.Command.TheVariants.{Check, Decide, Refute, Flips, Distance, Sample, Gen}
use Rattle.tl_text.specs.declared.SampleJob.{SampleJob}
use Rattle.tl_text.specs.declared.Shape.{Shape}
use Rattle.tl_text.specs.Words.{Setting, settings, are_sound, sample_names, gen_names, value_of, number_within, number_or, job_from, job_of, shape_of, max_order, is_summary, gen_from, order_of, gen_of, sample_command, gen_command, plain_command, command}
use Rattle.tl_outcomes.specs.Outcomes.{IsWithin}
use Rattle.tl_run.specs.Ranges.{IsWithinRanges}

-- ---- what holds of the value in an option

if-each : {A : Type 0} (Q : A → Type 0) (b : Bool) (x y : Option A) → IfSome x Q → IfSome y Q → IfSome (if b then x else y) Q
if-each Q true x y p q = p
if-each Q false x y p q = q

map-each : {A B : Type 0} (Q : B → Type 0) (f : A → B) (o : Option A) → IfSome o (λ x. Q (f x)) → IfSome (option_map f o) Q
map-each Q f None p = tt
map-each Q f (Some x) p = p

then-each : {A B : Type 0} (Q : B → Type 0) (f : A → Option B) (o : Option A) → ((x : A) → IfSome (f x) Q) → IfSome (option_and_then f o) Q
then-each Q f None p = tt
then-each Q f (Some x) p = p x

-- ---- numbers

-- a number that is in an option's range
number_within-range : (low high : ℕ) (word : List ℕ) → IfSome (number_within low high word) (λ n. (low ≤ n) × (n ≤ high))
number_within-range low high word = go (are_digits word && nat_le (length word) 20) (nat_le low (number_of word)) (nat_le (number_of word) high) refl refl
  where
    go : (a b c : Bool) → nat_le low (number_of word) ≡ b → nat_le (number_of word) high ≡ c
        → IfSome (if (a && b) && c then Some (number_of word) else None) (λ n. (low ≤ n) × (n ≤ high))
    go true true true d e = (leb-true low (number_of word) d, leb-true (number_of word) high e)
    go true true false d e = tt
    go true false c d e = tt
    go false b c d e = tt

number_or-range : (default low high : ℕ) (given : Option (List ℕ)) → low ≤ default → default ≤ high → IfSome (number_or default low high given) (λ n. (low ≤ n) × (n ≤ high))
number_or-range default low high None h k = (h, k)
number_or-range default low high (Some word) h k = number_within-range low high word

-- ---- jobs

job_from-within : (a b c d e : Option ℕ) → IfSome b (λ n. (1 ≤ n) × (n ≤ 65536)) → IfSome c (λ n. (0 ≤ n) × (n ≤ 30)) → IfSome d (λ n. (1 ≤ n) × (n ≤ 16))
    → IfSome (job_from a b c d e) IsWithin
job_from-within (Some a) (Some b) (Some c) (Some d) (Some e) h k l = record { bound = k.1; some = h.0; count = h.1; worked = l.0; workers = l.1 }
job_from-within (Some a) (Some b) (Some c) (Some d) None h k l = tt
job_from-within (Some a) (Some b) (Some c) None e h k l = tt
job_from-within (Some a) (Some b) None d e h k l = tt
job_from-within (Some a) None c d e h k l = tt
job_from-within None b c d e h k l = tt

job_of-within : (ss : List Setting) → IfSome (job_of ss) IsWithin
job_of-within ss =
    job_from-within _ _ _ _ _ (number_or-range 1 1 65536 (value_of ss (codes "--count")) (omega arith) (omega arith))
    (number_or-range 24 0 30 (value_of ss (codes "--bound")) (omega arith) (omega arith))
    (number_or-range 1 1 16 (value_of ss (codes "--workers")) (omega arith) (omega arith))

gen_from-ranges : (summary : Bool) (shape : Shape) (order : Option ℕ) (job : Option SampleJob) → IfSome order (λ n. (1 ≤ n) × (n ≤ max_order shape))
    → IfSome job IsWithin → IfSome (gen_from summary shape order job) (λ gen. (gen.order ≤ max_order gen.shape) × IsWithin gen.job)
gen_from-ranges summary shape (Some n) (Some job) h k = (h.1, k)
gen_from-ranges summary shape (Some n) None h k = tt
gen_from-ranges summary shape None job h k = tt

-- ---- commands

sample_command-ranges : (ss : List Setting) → IfSome (sample_command ss) IsWithinRanges
sample_command-ranges ss =
    if-each IsWithinRanges (are_sound sample_names ss) (option_map (λ job. Sample job) (job_of ss)) None
    (map-each IsWithinRanges (λ job. Sample job) (job_of ss) (job_of-within ss)) tt

gen_command-ranges : (ss : List Setting) → IfSome (gen_command ss) IsWithinRanges
gen_command-ranges ss =
    if-each IsWithinRanges (are_sound gen_names ss) (option_map (λ gen. Gen gen) (gen_of ss)) None
    (map-each IsWithinRanges (λ gen. Gen gen) (gen_of ss)
    (then-each (λ gen. (gen.order ≤ max_order gen.shape) × IsWithin gen.job) (λ shape. gen_from (is_summary ss) shape (order_of ss shape) (job_of ss))
    (option_and_then shape_of (value_of ss (codes "--shape")))
    (λ shape. gen_from-ranges (is_summary ss) shape (order_of ss shape) (job_of ss)
    (then-each (λ n. (1 ≤ n) × (n ≤ max_order shape)) (number_within 1 (max_order shape)) (value_of ss (codes "--order")) (number_within-range 1 (max_order shape)))
    (job_of-within ss)))) tt

plain_command-ranges : (word : List ℕ) → IfSome (plain_command word) IsWithinRanges
plain_command-ranges word =
    if-each IsWithinRanges (bytes_eq word (codes "check")) (Some Check) _ tt
    (if-each IsWithinRanges (bytes_eq word (codes "decide")) (Some Decide) _ tt
    (if-each IsWithinRanges (bytes_eq word (codes "refute")) (Some Refute) _ tt
    (if-each IsWithinRanges (bytes_eq word (codes "flips")) (Some Flips) _ tt
    (if-each IsWithinRanges (bytes_eq word (codes "distance")) (Some Distance) None tt tt))))

command-ranges : (words : List (List ℕ)) → IfSome (command words) IsWithinRanges
command-ranges [] = tt
command-ranges (word ∷ words) =
    if-each IsWithinRanges (bytes_eq word (codes "sample")) (option_and_then sample_command (settings words)) _
    (then-each IsWithinRanges sample_command (settings words) sample_command-ranges)
    (if-each IsWithinRanges (bytes_eq word (codes "gen")) (option_and_then gen_command (settings words)) _
    (then-each IsWithinRanges gen_command (settings words) gen_command-ranges)
    (if-each IsWithinRanges (length words == 0) (plain_command word) None (plain_command-ranges word) tt))

pub asked-ranges : (words : List (List ℕ)) (c : Command) → command words ≡ Some c → IsWithinRanges c
asked-ranges words c e = subst (λ (o : Option Command). IfSome o IsWithinRanges) e (command-ranges words)
