-- The answers that refuse words or an input.
use Rattle.std.specs.Prelude.{ℕ, List, [], ◌∷◌, ◌++◌, codes, decimal}
use Rattle.tl_formats.specs.RegionText.{RegionRefusal, bad_header, bad_byte, too_large, empty, parts, pinch, hole}
use Rattle.tl_formats.specs.Drawing.{DrawingRefusal, bad_letter, unmatched}
use Rattle.tl_formats.specs.Texts.{line, cell_words, corner_words}
use Rattle.tl_run.specs.Answers.{Answer, answer}

abbrev pub usage_text : List ℕ
usage_text =
    line (codes "usage: tilings check | decide | refute | flips | distance" ∷ [])
    ++ line (codes "       tilings sample [--seed S] [--count N] [--bound B] [--workers W] [--bands K]" ∷ [])
    ++ line (codes "       tilings gen --shape aztec|hexagon|staircase|hourglass --order N [--summary] [options of sample]" ∷ [])

-- the words ask for no command
abbrev pub usage : Answer
usage = answer usage_text 2

-- a read failed
abbrev pub read_fault : Answer
read_fault = answer (line (codes "read fault" ∷ [])) 4

abbrev pub input_too_long : Answer
input_too_long = answer (line (codes "input too long" ∷ [])) 3

-- something other than line ends follows the last section
abbrev pub extra_text : Answer
extra_text = answer (line (codes "extra text" ∷ [])) 3

abbrev pub region_refusal_text : RegionRefusal → List ℕ
region_refusal_text bad_header = line (codes "bad header" ∷ [])
region_refusal_text (bad_byte a) = line (codes "bad byte" ∷ cell_words a)
region_refusal_text too_large = line (codes "region too large" ∷ [])
region_refusal_text empty = line (codes "empty region" ∷ [])
region_refusal_text (parts a) = line (codes "parts" ∷ cell_words a)
region_refusal_text (pinch v) = line (codes "pinch" ∷ corner_words v)
region_refusal_text hole = line (codes "hole" ∷ [])

abbrev pub region_refused : RegionRefusal → Answer
region_refused f = answer (region_refusal_text f) 3

-- drawing number n
abbrev pub drawing_refusal_text : ℕ → DrawingRefusal → List ℕ
drawing_refusal_text n (bad_letter a) = line (codes "drawing" ∷ decimal n ∷ codes "bad letter" ∷ cell_words a)
drawing_refusal_text n (unmatched a) = line (codes "drawing" ∷ decimal n ∷ codes "unmatched" ∷ cell_words a)

abbrev pub drawing_refused : ℕ → DrawingRefusal → Answer
drawing_refused n f = answer (drawing_refusal_text n f) 3

-- the line of the obstruction's text that is wrong, missing or too much
abbrev pub bad_obstruction : ℕ → Answer
bad_obstruction i = answer (line (codes "bad obstruction" ∷ decimal i ∷ [])) 3

-- `check` asks whether the cells of its drawing are matched, and so an unmatched one is its answer no.
abbrev pub check_refused : DrawingRefusal → Answer
check_refused (bad_letter a) = drawing_refused 1 (bad_letter a)
check_refused (unmatched a) = answer (line (codes "no" ∷ cell_words a)) 1
