-- The words of the command line.
use Rattle.std.specs.Prelude.{ℕ, ◌-◌, ◌^◌, Bool, not, ◌&&◌, ◌||◌, ◌==◌, nat_le, if◌then◌else◌, List, [], ◌∷◌, length, find, codes, Option, Some, None, option_map, option_and_then, is_none}
use Rattle.std.specs.List.{list_any, list_all, before_first, after_first}
use Rattle.std.specs.Str.{bytes_eq}
use Rattle.tl_text.specs.declared.Command.{Command}
use Rattle.tl_text.specs.declared.Command.TheVariants.{Check, Decide, Refute, Flips, Distance, Sample, Gen}
use Rattle.tl_text.specs.declared.SampleJob.{SampleJob}
use Rattle.tl_text.specs.declared.GenJob.{GenJob}
use Rattle.tl_text.specs.declared.Shape.{Shape}
use Rattle.tl_text.specs.declared.Shape.TheVariants.{Aztec, Hexagon, Staircase, Hourglass}
use Rattle.tl_lists.specs.Lists.{distinct}
use Rattle.tl_formats.specs.Texts.{are_digits, number_of}

-- an option as it was given: its name, and its value, which the flag `--summary` doesn't have
pub record Setting : Type 0 where
  pub name : List ℕ
  pub value : Option (List ℕ)

abbrev pub setting : List ℕ → Option (List ℕ) → Setting
setting name value = record { name = name; value = value }

-- The flag is a word of its own, and so is an option that is written `--name=value`.
abbrev pub is_flag : List ℕ → Bool
is_flag word = bytes_eq word (codes "--summary")

abbrev pub is_whole : List ℕ → Bool
is_whole word = is_flag word || list_any (λ b. b == 61) word

abbrev pub whole_setting : List ℕ → Setting
whole_setting word =
    if is_flag word then setting word None
    else setting (before_first (λ b. b == 61) word) (Some (after_first (λ b. b == 61) word))

abbrev pub and_then_settings : Setting → Option (List Setting) → Option (List Setting)
and_then_settings s more = option_map (λ ss. s ∷ ss) more

-- the words after the first as options; any other option is two words, `--name value`
abbrev pub settings : List (List ℕ) → Option (List Setting)
settings [] = Some []
settings (w ∷ []) = if is_whole w then Some (whole_setting w ∷ []) else None
settings (w ∷ v ∷ ws) =
    if is_whole w then and_then_settings (whole_setting w) (settings (v ∷ ws))
    else and_then_settings (setting w (Some v)) (settings ws)

-- Each name is one of the command's and stands once, and the flag has no value.
abbrev pub are_sound : List (List ℕ) → List Setting → Bool
are_sound names ss =
    list_all (λ s. list_any (bytes_eq s.name) names) ss
    && distinct (λ s t. bytes_eq s.name t.name) ss
    && list_all (λ s. not (is_flag s.name) || is_none s.value) ss

abbrev pub sample_names : List (List ℕ)
sample_names = codes "--seed" ∷ codes "--count" ∷ codes "--bound" ∷ codes "--workers" ∷ codes "--bands" ∷ []

abbrev pub gen_names : List (List ℕ)
gen_names = codes "--shape" ∷ codes "--order" ∷ codes "--summary" ∷ sample_names

abbrev pub value_of : List Setting → List ℕ → Option (List ℕ)
value_of ss name = option_and_then (λ s. s.value) (find (λ s. bytes_eq s.name name) ss)

-- A number is 1 to 20 digits, with a value in the option's range.
abbrev pub number_within : ℕ → ℕ → List ℕ → Option ℕ
number_within low high word =
    if are_digits word && nat_le (length word) 20 && nat_le low (number_of word) && nat_le (number_of word) high
    then Some (number_of word) else None

abbrev pub number_or : ℕ → ℕ → ℕ → Option (List ℕ) → Option ℕ
number_or default low high None = Some default
number_or default low high (Some word) = number_within low high word

-- the job, where each of its numbers is there
abbrev pub job_from : Option ℕ → Option ℕ → Option ℕ → Option ℕ → Option ℕ → Option SampleJob
job_from (Some seed) (Some count) (Some bound) (Some workers) (Some bands) =
    Some (record { seed = seed; count = count; bound = bound; workers = workers; bands = bands })
job_from _ _ _ _ _ = None

abbrev pub job_of : List Setting → Option SampleJob
job_of ss =
    job_from (number_or 0 0 (2 ^ 64 - 1) (value_of ss (codes "--seed")))
    (number_or 1 1 65536 (value_of ss (codes "--count")))
    (number_or 24 0 30 (value_of ss (codes "--bound")))
    (number_or 1 1 16 (value_of ss (codes "--workers")))
    (number_or 1 1 64 (value_of ss (codes "--bands")))

abbrev pub shape_of : List ℕ → Option Shape
shape_of word =
    if bytes_eq word (codes "aztec") then Some Aztec
    else (if bytes_eq word (codes "hexagon") then Some Hexagon
    else (if bytes_eq word (codes "staircase") then Some Staircase
    else (if bytes_eq word (codes "hourglass") then Some Hourglass else None)))

abbrev pub max_order : Shape → ℕ
max_order Aztec = 256
max_order Hexagon = 128
max_order Staircase = 512
max_order Hourglass = 256

abbrev pub is_summary : List Setting → Bool
is_summary ss = list_any (λ s. is_flag s.name) ss

-- the shape and its order have no default
abbrev pub gen_from : Bool → Shape → Option ℕ → Option SampleJob → Option GenJob
gen_from summary shape (Some order) (Some job) =
    Some (record { shape = shape; order = order; summary = summary; job = job })
gen_from _ _ _ _ = None

abbrev pub order_of : List Setting → Shape → Option ℕ
order_of ss shape = option_and_then (number_within 1 (max_order shape)) (value_of ss (codes "--order"))

abbrev pub gen_of : List Setting → Option GenJob
gen_of ss =
    option_and_then (λ shape. gen_from (is_summary ss) shape (order_of ss shape) (job_of ss))
    (option_and_then shape_of (value_of ss (codes "--shape")))

abbrev pub sample_command : List Setting → Option Command
sample_command ss = if are_sound sample_names ss then option_map (λ job. Sample job) (job_of ss) else None

abbrev pub gen_command : List Setting → Option Command
gen_command ss = if are_sound gen_names ss then option_map (λ gen. Gen gen) (gen_of ss) else None

abbrev pub plain_command : List ℕ → Option Command
plain_command word =
    if bytes_eq word (codes "check") then Some Check
    else (if bytes_eq word (codes "decide") then Some Decide
    else (if bytes_eq word (codes "refute") then Some Refute
    else (if bytes_eq word (codes "flips") then Some Flips
    else (if bytes_eq word (codes "distance") then Some Distance else None))))

-- what the words ask for, or nothing where they are no command
abbrev pub command : List (List ℕ) → Option Command
command [] = None
command (word ∷ words) =
    if bytes_eq word (codes "sample") then option_and_then sample_command (settings words)
    else (if bytes_eq word (codes "gen") then option_and_then gen_command (settings words)
    else (if length words == 0 then plain_command word else None))
