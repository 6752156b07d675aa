-- Region texts, drawings, obstruction texts, words and shapes, by evaluation.
use Rattle.std.proofs.Common.{◌≡◌, ℕ, true, false, List, [], ◌∷◌, ◌++◌, find, refl, codes, replicate, Some, None, Ok, Err, pos, negsuc}
use Rattle.std.specs.Fmt.{digits}
use Rattle.tl_definitions.specs.declared.Kind.{Kind}
use Rattle.tl_definitions.specs.declared.Kind.TheVariants.{Square, Triangle}
use Rattle.tl_text.specs.declared.Command.TheVariants.{Check, Sample, Gen}
use Rattle.tl_text.specs.declared.Shape.TheVariants.{Aztec, Hexagon, Staircase, Hourglass}
use Rattle.tl_definitions.specs.Lattice.{cell, corner}
use Rattle.tl_definitions.specs.Region.{Region, places, corner_places}
use Rattle.tl_definitions.specs.Accepted.{is_pinch, corner_count, edge_count, cell_count}
use Rattle.tl_formats.specs.Input.{first_section, further_section, rest_is_empty}
use Rattle.tl_formats.specs.RegionText.{region_of, region_of_lines, bad_header, bad_byte, too_large}
use Rattle.tl_formats.specs.Drawing.{drawing_refusal, bad_letter, unmatched}
use Rattle.tl_definitions.specs.Obstruction.{total, Open, Gap}
use Rattle.tl_formats.specs.ObstructionText.{obstruction_text, first_bad_line, told}
use Rattle.tl_text.specs.Words.{command}
use Rattle.tl_text.specs.Shapes.{shape_text}
use Rattle.tl_formats.proofs.Cases.{input}

-- ---- lines and sections

abbrev two_two : Region
two_two = record { kind = Square; rows = 2; columns = 2; cells = places 2 2 }

read : region_of_lines (first_section (input (codes "square" ∷ codes "##" ∷ codes "##" ∷ []))).lines ≡ Ok two_two
read = refl

-- with carriage returns, and without the last line feed
read_crlf : region_of_lines (first_section (codes "square" ++ 13 ∷ 10 ∷ codes "##" ++ 13 ∷ 10 ∷ codes "##" ++ 13 ∷ [])).lines ≡ Ok two_two
read_crlf = refl

sections : (first_section (input (codes "square" ∷ codes "##" ∷ codes "##" ∷ [] ∷ codes "><" ∷ codes "><" ∷ []))).rest ≡ input (codes "><" ∷ codes "><" ∷ [])
sections = refl

further : (further_section (input ([] ∷ (13 ∷ []) ∷ codes "><" ∷ codes "><" ∷ [] ∷ codes "##" ∷ []))) ≡ record { lines = codes "><" ∷ codes "><" ∷ []; rest = input (codes "##" ∷ []) }
further = refl

ends_only : rest_is_empty (10 ∷ 13 ∷ 10 ∷ []) ≡ true
ends_only = refl

not_ends_only : rest_is_empty (10 ∷ 35 ∷ 35 ∷ 10 ∷ []) ≡ false
not_ends_only = refl

-- ---- refusals of a region's text

header_missing : region_of_lines (first_section []).lines ≡ Err bad_header
header_missing = refl

header_spaces : region_of_lines (first_section (input (codes "square  " ∷ codes "##" ∷ codes "##" ∷ []))).lines ≡ Ok two_two
header_spaces = refl

byte_bad : region_of_lines (first_section (input (codes "square" ∷ codes "#x" ∷ []))).lines ≡ Err (bad_byte (cell 0 1))
byte_bad = refl

size_bad : region_of_lines (codes "square" ∷ replicate 513 35 ∷ []) ≡ Err too_large
size_bad = refl

-- ---- totals, Euler's number, pinches

abbrev region : Kind → List (List ℕ) → Region
region k rows = region_of k rows

total_one : total (region Square (codes "#" ∷ [])) ≡ pos 4
total_one = refl

total_up : total (region Triangle (codes "#" ∷ [])) ≡ pos 3
total_up = refl

total_down : total (region Triangle (codes ".#" ∷ [])) ≡ negsuc 2
total_down = refl

abbrev frame : Region
frame = region Square (codes "###" ∷ codes "#.#" ∷ codes "###" ∷ [])

frame_corners : corner_count frame ≡ 16
frame_corners = refl

frame_edges : edge_count frame ≡ 24
frame_edges = refl

frame_cells : cell_count frame ≡ 8
frame_cells = refl

abbrev bent : Region
bent = region Square (codes "###" ∷ codes "#.#" ∷ codes "##." ∷ [])

bent_pinch : find (is_pinch bent) (corner_places bent) ≡ Some (corner 2 2)
bent_pinch = refl

-- ---- drawings

drawn : drawing_refusal two_two (codes "><" ∷ codes "><" ∷ []) ≡ None
drawn = refl

turned_away : drawing_refusal two_two (codes ">>" ∷ codes "><" ∷ []) ≡ Some (unmatched (cell 0 0))
turned_away = refl

missing : drawing_refusal two_two [] ≡ Some (bad_letter (cell 0 0))
missing = refl

outside : drawing_refusal two_two (codes "><" ∷ codes "><" ∷ codes ".<" ∷ []) ≡ Some (bad_letter (cell 2 1))
outside = refl

-- ---- texts of obstructions

gap_text : obstruction_text (Gap (pos 5) (corner 2 2 ∷ corner 1 2 ∷ [])) ≡ input (codes "none gap 5 1" ∷ codes "2 2" ∷ codes "1 2" ∷ [])
unfolding digits
gap_text = refl

gap_told : told (codes "none gap 5 1" ∷ codes "2 2" ∷ codes "1 2" ∷ []) ≡ Some (Gap (pos 5) (corner 2 2 ∷ corner 1 2 ∷ []))
gap_told = refl

gap_good : first_bad_line (codes "none gap 5 1" ∷ codes "2 2" ∷ codes "1 2" ∷ []) ≡ None
gap_good = refl

gap_short : first_bad_line (codes "none gap 5 1" ∷ codes "2 2" ∷ []) ≡ Some 3
gap_short = refl

gap_long : first_bad_line (codes "none gap 5 1" ∷ codes "2 2" ∷ codes "1 2" ∷ codes "1 2" ∷ []) ≡ Some 4
gap_long = refl

open_told : told (codes "none open -3" ∷ []) ≡ Some (Open (negsuc 2))
open_told = refl

open_minus_zero : first_bad_line (codes "none open -0" ∷ []) ≡ Some 1
open_minus_zero = refl

open_two_spaces : first_bad_line (codes "none  open 4" ∷ []) ≡ Some 1
open_two_spaces = refl

-- ---- words

no_word : command [] ≡ None
no_word = refl

word_check : command (codes "check" ∷ []) ≡ Some Check
word_check = refl

word_tile : command (codes "tile" ∷ []) ≡ None
word_tile = refl

decide_now : command (codes "decide" ∷ codes "now" ∷ []) ≡ None
decide_now = refl

count_zero : command (codes "sample" ∷ codes "--count" ∷ codes "0" ∷ []) ≡ None
count_zero = refl

seed_twice : command (codes "sample" ∷ codes "--seed" ∷ codes "1" ∷ codes "--seed" ∷ codes "1" ∷ []) ≡ None
seed_twice = refl

seed_plus : command (codes "sample" ∷ codes "--seed" ∷ codes "+1" ∷ []) ≡ None
seed_plus = refl

dashes : command (codes "sample" ∷ codes "--" ∷ []) ≡ None
dashes = refl

no_shape : command (codes "gen" ∷ codes "--order" ∷ codes "2" ∷ []) ≡ None
no_shape = refl

order_257 : command (codes "gen" ∷ codes "--shape" ∷ codes "aztec" ∷ codes "--order" ∷ codes "257" ∷ []) ≡ None
order_257 = refl

seed_zeros : command (codes "sample" ∷ codes "--seed=007" ∷ []) ≡ Some (Sample (record { seed = 7; count = 1; bound = 24; workers = 1; bands = 1 }))
seed_zeros = refl

gen_all : command (codes "gen" ∷ codes "--summary" ∷ codes "--order=16" ∷ codes "--shape" ∷ codes "aztec" ∷ codes "--workers" ∷ codes "4" ∷ [])
    ≡ Some (Gen (record { shape = Aztec; order = 16; summary = true; job = record { seed = 0; count = 1; bound = 24; workers = 4; bands = 1 } }))
gen_all = refl

summary_of_sample : command (codes "sample" ∷ codes "--summary" ∷ []) ≡ None
summary_of_sample = refl

seed_last : command (codes "sample" ∷ codes "--seed" ∷ codes "18446744073709551615" ∷ []) ≡ Some (Sample (record { seed = 18446744073709551615; count = 1; bound = 24; workers = 1; bands = 1 }))
seed_last = refl

seed_past : command (codes "sample" ∷ codes "--seed" ∷ codes "18446744073709551616" ∷ []) ≡ None
seed_past = refl

-- ---- shapes

aztec_2 : shape_text Aztec 2 ≡ input (codes "square" ∷ codes ".##" ∷ codes "####" ∷ codes "####" ∷ codes ".##" ∷ [])
aztec_2 = refl

hexagon_1 : shape_text Hexagon 1 ≡ input (codes "triangle" ∷ codes "###" ∷ codes "###" ∷ [])
hexagon_1 = refl

staircase_3 : shape_text Staircase 3 ≡ input (codes "square" ∷ codes "#" ∷ codes "##" ∷ codes "###" ∷ [])
staircase_3 = refl

hourglass_2 : shape_text Hourglass 2 ≡ input (codes "square" ∷ codes "#" ∷ codes "##" ∷ codes ".##" ∷ codes "..#" ∷ [])
hourglass_2 = refl

staircase_total : total (region Square (codes "#" ∷ codes "##" ∷ codes "###" ∷ [])) ≡ pos 8
staircase_total = refl
