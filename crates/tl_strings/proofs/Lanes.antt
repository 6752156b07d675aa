-- Pairs of words that are made of others, lane by lane.
use Rattle.std.proofs.Common.{◌≡◌, ℕ, zero, suc, ◌-◌, ◌*◌, ◌/◌, ◌%◌, ◌^◌, ◌<◌, List, [], ◌∷◌, Bool, true, false, not, ◌&&◌, ◌||◌, length, get_or, map, w64, Fits, subst, refl, sym, ap, ◌∙◌, arith}
use Rattle.std.specs.Prelude.{bit_and, bit_or, bit_xor}
use Rattle.std.specs.Simd.Lanes.{Each1, zip2}
use Rattle.std.proofs.lemmas.Bool.{cond-false, cond-true}
use Rattle.std.proofs.lemmas.List.{length-map}
use Rattle.std.proofs.lemmas.Nat.{xor_lt}
use Rattle.std.proofs.lemmas.Simd.{Each1-get_or, get_or-zip2, length-zip2}
use Rattle.tl_strings.specs.Steps.{across, all_three, differ, stepped_bit, upright}
use Rattle.tl_strings.specs.Words.{bit, bit_before, bit_behind}
use Rattle.tl_strings.proofs.Bits.{bit-and, bit-moved_down, bit-moved_up, bit-not, bit-or, bit-xor, both_ways, choice, plain, turned}

-- what is known of a vector that is passed
pub lane-fits : (xs : List ℕ) (lane : ℕ) → (length xs ≡ 2) × Each1 (Fits w64) xs → lane < 2 → get_or xs lane 0 < 2 ^ 64
lane-fits xs lane known below = (Each1-get_or (Fits w64) xs lane 0 (omega (arith, known.0, below)) known.1).fits

of_lanes : (P : ℕ → Type 0) → P 0 → P 1 → (lane : ℕ) → lane < 2 → P lane
of_lanes P first second zero below = first
of_lanes P first second (suc zero) below = second
of_lanes P first second (suc (suc lane)) below = absurd (omega arith)

-- ---- an operator on two pairs

pub pair-zip2 : (f : ℕ → ℕ → ℕ) (xs ys : List ℕ) → length xs ≡ 2 → length ys ≡ 2 → length (zip2 f xs ys) ≡ 2
pair-zip2 f xs ys p q = length-zip2 f xs ys (p ∙ sym q) ∙ p

pub lane-zip2 : (f : ℕ → ℕ → ℕ) (xs ys : List ℕ) (lane : ℕ) → length xs ≡ 2 → length ys ≡ 2 → lane < 2 → get_or (zip2 f xs ys) lane 0 ≡ f (get_or xs lane 0) (get_or ys lane 0)
lane-zip2 f xs ys lane p q below = get_or-zip2 f xs ys lane 0 0 0 (omega (arith, p, below)) (omega (arith, q, below))

lane-and : (xs ys : List ℕ) (lane place : ℕ) → length xs ≡ 2 → length ys ≡ 2 → lane < 2
    → bit (get_or (zip2 bit_and xs ys) lane 0) place ≡ (bit (get_or xs lane 0) place && bit (get_or ys lane 0) place)
lane-and xs ys lane place p q below = ap (λ (w : ℕ). bit w place) (lane-zip2 bit_and xs ys lane p q below) ∙ bit-and (get_or xs lane 0) (get_or ys lane 0) place

pub lane-or : (xs ys : List ℕ) (lane place : ℕ) → length xs ≡ 2 → length ys ≡ 2 → lane < 2
    → bit (get_or (zip2 bit_or xs ys) lane 0) place ≡ (bit (get_or xs lane 0) place || bit (get_or ys lane 0) place)
lane-or xs ys lane place p q below = ap (λ (w : ℕ). bit w place) (lane-zip2 bit_or xs ys lane p q below) ∙ bit-or (get_or xs lane 0) (get_or ys lane 0) place

lane-xor : (xs ys : List ℕ) (lane place : ℕ) → length xs ≡ 2 → length ys ≡ 2 → lane < 2
    → bit (get_or (zip2 bit_xor xs ys) lane 0) place ≡ differ (bit (get_or xs lane 0) place) (bit (get_or ys lane 0) place)
lane-xor xs ys lane place p q below = ap (λ (w : ℕ). bit w place) (lane-zip2 bit_xor xs ys lane p q below) ∙ bit-xor (get_or xs lane 0) (get_or ys lane 0) place

-- ---- shifts

-- by the same number in both lanes
lane-splat : (f : ℕ → ℕ → ℕ) (xs : List ℕ) (k lane : ℕ) → length xs ≡ 2 → lane < 2 → get_or (zip2 f xs (k ∷ k ∷ [])) lane 0 ≡ f (get_or xs lane 0) k
lane-splat f xs k lane p below =
    lane-zip2 f xs (k ∷ k ∷ []) lane p refl below ∙ ap (f (get_or xs lane 0)) (of_lanes (λ n. get_or (k ∷ k ∷ []) n 0 ≡ k) refl refl lane below)

abbrev up : ℕ → ℕ → ℕ
up w k = w * 2 ^ k % 2 ^ 64

abbrev down : ℕ → ℕ → ℕ
down w k = w / 2 ^ k

pub lane-moved_up : (words previous : List ℕ) (lane place : ℕ) → length words ≡ 2 → length previous ≡ 2 → lane < 2 → get_or previous lane 0 < 2 ^ 64 → place < 64
    → bit (get_or (zip2 bit_or (zip2 up words (1 ∷ 1 ∷ [])) (zip2 down previous (63 ∷ 63 ∷ []))) lane 0) place ≡ bit_before (get_or words lane 0) (get_or previous lane 0) place
lane-moved_up words previous lane place p q below fits within =
    ap (λ (w : ℕ). bit w place)
    (lane-zip2 bit_or (zip2 up words (1 ∷ 1 ∷ [])) (zip2 down previous (63 ∷ 63 ∷ [])) lane (pair-zip2 up words (1 ∷ 1 ∷ []) p refl) (pair-zip2 down previous (63 ∷ 63 ∷ []) q refl) below
    ∙ (λ t. bit_or (lane-splat up words 1 lane p below t) (lane-splat down previous 63 lane q below t)))
    ∙ bit-moved_up (get_or words lane 0) (get_or previous lane 0) place fits within

pub lane-moved_down : (words next : List ℕ) (lane place : ℕ) → length words ≡ 2 → length next ≡ 2 → lane < 2 → get_or words lane 0 < 2 ^ 64 → place < 64
    → bit (get_or (zip2 bit_or (zip2 down words (1 ∷ 1 ∷ [])) (zip2 up next (63 ∷ 63 ∷ []))) lane 0) place ≡ bit_behind (get_or words lane 0) (get_or next lane 0) place
lane-moved_down words next lane place p q below fits within =
    ap (λ (w : ℕ). bit w place)
    (lane-zip2 bit_or (zip2 down words (1 ∷ 1 ∷ [])) (zip2 up next (63 ∷ 63 ∷ [])) lane (pair-zip2 down words (1 ∷ 1 ∷ []) p refl) (pair-zip2 up next (63 ∷ 63 ∷ []) q refl) below
    ∙ (λ t. bit_or (lane-splat down words 1 lane p below t) (lane-splat up next 63 lane q below t)))
    ∙ bit-moved_down (get_or words lane 0) (get_or next lane 0) place fits within

-- ---- `!`

-- the lanes of `!`
abbrev pub turned_words : List ℕ → List ℕ
turned_words xs = map (λ (a : ℕ). 2 ^ 64 - 1 - a) xs

pair-turned : (xs : List ℕ) → length xs ≡ 2 → length (turned_words xs) ≡ 2
pair-turned xs p = length-map xs (λ (a : ℕ). 2 ^ 64 - 1 - a) ∙ p

lane-not : (xs : List ℕ) (lane place : ℕ) → length xs ≡ 2 → lane < 2 → get_or xs lane 0 < 2 ^ 64 → place < 64
    → bit (get_or (turned_words xs) lane 0) place ≡ not (bit (get_or xs lane 0) place)
lane-not [] lane place p below fits within = absurd (omega arith)
lane-not (a ∷ []) lane place p below fits within = absurd (omega arith)
lane-not (a ∷ b ∷ []) zero place p below fits within = bit-not a place fits within
lane-not (a ∷ b ∷ []) (suc zero) place p below fits within = bit-not b place fits within
lane-not (a ∷ b ∷ []) (suc (suc lane)) place p below fits within = absurd (omega arith)
lane-not (a ∷ b ∷ c ∷ rest) lane place p below fits within = absurd (omega arith)

-- ---- choices and steps

pub lane-stepped : (here all_to all_from coin free : List ℕ) (lane place : ℕ)
    → length here ≡ 2 → length all_to ≡ 2 → length all_from ≡ 2 → length coin ≡ 2 → length free ≡ 2 → lane < 2 → get_or coin lane 0 < 2 ^ 64 → place < 64
    → bit (get_or (zip2 bit_xor here (zip2 bit_and (zip2 bit_or (zip2 bit_and all_to coin) (zip2 bit_and all_from (turned_words coin))) free)) lane 0) place
    ≡ stepped_bit (bit (get_or here lane 0) place) (bit (get_or all_to lane 0) place) (bit (get_or all_from lane 0) place) (bit (get_or coin lane 0) place) (bit (get_or free lane 0) place)
lane-stepped here all_to all_from coin free lane place h t f c e below fits within =
    let others = turned_words coin in
    let others_is = pair-turned coin c in
    let to = zip2 bit_and all_to coin in
    let to_is = pair-zip2 bit_and all_to coin t c in
    let from = zip2 bit_and all_from others in
    let from_is = pair-zip2 bit_and all_from others f others_is in
    let change = zip2 bit_or to from in
    let change_is = pair-zip2 bit_or to from to_is from_is in
    let coin_bit = bit (get_or coin lane 0) place in
    let to_bit = bit (get_or all_to lane 0) place in
    let from_bit = bit (get_or all_from lane 0) place in
    let free_bit = bit (get_or free lane 0) place in
    lane-xor here (zip2 bit_and change free) lane place h (pair-zip2 bit_and change free change_is e) below
    ∙ ap (differ (bit (get_or here lane 0) place))
    (lane-and change free lane place change_is e below ∙ both_ways (bit (get_or change lane 0) place) free_bit
    ∙ ap (λ b. free_bit && b)
    (lane-or to from lane place to_is from_is below
    ∙ (λ i. lane-and all_to coin lane place t c below i
    || (lane-and all_from others lane place f others_is below ∙ ap (λ b. from_bit && b) (lane-not coin lane place c below fits within)) i)
    ∙ choice coin_bit to_bit from_bit))

-- ---- edges

lane-not_xor : (xs here : List ℕ) (lane place : ℕ) → length xs ≡ 2 → length here ≡ 2 → lane < 2 → get_or xs lane 0 < 2 ^ 64 → get_or here lane 0 < 2 ^ 64 → place < 64
    → bit (get_or (turned_words (zip2 bit_xor xs here)) lane 0) place ≡ not (differ (bit (get_or xs lane 0) place) (bit (get_or here lane 0) place))
lane-not_xor xs here lane place p q below xs_fit here_fits within =
    let fits : get_or (zip2 bit_xor xs here) lane 0 < 2 ^ 64 =
    subst (λ (w : ℕ). w < 2 ^ 64) (sym (lane-zip2 bit_xor xs here lane p q below)) (xor_lt 64 (get_or xs lane 0) (get_or here lane 0) xs_fit here_fits) in
    lane-not (zip2 bit_xor xs here) lane place (pair-zip2 bit_xor xs here p q) below fits within ∙ ap not (lane-xor xs here lane place p q below)

pub lane-across_odd : (is_odd : Bool) (here west east : List ℕ) (lane place : ℕ) → is_odd ≡ true → length here ≡ 2 → length west ≡ 2 → length east ≡ 2 → lane < 2
    → get_or here lane 0 < 2 ^ 64 → get_or east lane 0 < 2 ^ 64 → place < 64
    → bit (get_or (zip2 bit_and (zip2 bit_xor west here) (turned_words (zip2 bit_xor east here))) lane 0) place
    ≡ across is_odd (bit (get_or here lane 0) place) (bit (get_or west lane 0) place) (bit (get_or east lane 0) place)
lane-across_odd is_odd here west east lane place odd h w e below here_fits east_fits within =
    let right = zip2 bit_xor east here in
    lane-and (zip2 bit_xor west here) (turned_words right) lane place (pair-zip2 bit_xor west here w h) (pair-turned right (pair-zip2 bit_xor east here e h)) below
    ∙ (λ t. lane-xor west here lane place w h below t && lane-not_xor east here lane place e h below east_fits here_fits within t)
    ∙ sym (cond-true is_odd _ _ odd)

pub lane-across_even : (is_odd : Bool) (here west east : List ℕ) (lane place : ℕ) → is_odd ≡ false → length here ≡ 2 → length west ≡ 2 → length east ≡ 2 → lane < 2
    → get_or here lane 0 < 2 ^ 64 → get_or west lane 0 < 2 ^ 64 → place < 64
    → bit (get_or (zip2 bit_and (turned_words (zip2 bit_xor west here)) (zip2 bit_xor east here)) lane 0) place
    ≡ across is_odd (bit (get_or here lane 0) place) (bit (get_or west lane 0) place) (bit (get_or east lane 0) place)
lane-across_even is_odd here west east lane place even h w e below here_fits west_fits within =
    let left = zip2 bit_xor west here in
    lane-and (turned_words left) (zip2 bit_xor east here) lane place (pair-turned left (pair-zip2 bit_xor west here w h)) (pair-zip2 bit_xor east here e h) below
    ∙ (λ t. lane-not_xor west here lane place w h below west_fits here_fits within t && lane-xor east here lane place e h below t)
    ∙ sym (cond-false is_odd _ _ even)

pub lane-upright : (here north south : List ℕ) (lane place : ℕ) → length here ≡ 2 → length north ≡ 2 → length south ≡ 2 → lane < 2
    → bit (get_or (zip2 bit_and (zip2 bit_xor north here) (zip2 bit_xor south here)) lane 0) place
    ≡ upright (bit (get_or here lane 0) place) (bit (get_or north lane 0) place) (bit (get_or south lane 0) place)
lane-upright here north south lane place h n s below =
    lane-and (zip2 bit_xor north here) (zip2 bit_xor south here) lane place (pair-zip2 bit_xor north here n h) (pair-zip2 bit_xor south here s h) below
    ∙ (λ t. lane-xor north here lane place n h below t && lane-xor south here lane place s h below t)

-- where the words are turned, and where they aren't
lane-three : (same first second third : List ℕ) (lane place : ℕ) → length same ≡ 2 → length first ≡ 2 → length second ≡ 2 → length third ≡ 2 → lane < 2
    → bit (get_or (zip2 bit_and (zip2 bit_and (zip2 bit_xor first same) (zip2 bit_xor second same)) (zip2 bit_xor third same)) lane 0) place
    ≡ (differ (bit (get_or first lane 0) place) (bit (get_or same lane 0) place) && differ (bit (get_or second lane 0) place) (bit (get_or same lane 0) place)
    && differ (bit (get_or third lane 0) place) (bit (get_or same lane 0) place))
lane-three same first second third lane place p f s t below =
    let two = zip2 bit_and (zip2 bit_xor first same) (zip2 bit_xor second same) in
    let first_is = pair-zip2 bit_xor first same f p in
    let second_is = pair-zip2 bit_xor second same s p in
    lane-and two (zip2 bit_xor third same) lane place (pair-zip2 bit_and (zip2 bit_xor first same) (zip2 bit_xor second same) first_is second_is) (pair-zip2 bit_xor third same t p) below
    ∙ (λ i. (lane-and (zip2 bit_xor first same) (zip2 bit_xor second same) lane place first_is second_is below
    ∙ (λ j. lane-xor first same lane place f p below j && lane-xor second same lane place s p below j)) i && lane-xor third same lane place t p below i)

pub lane-three_turned : (is_turned : Bool) (here same first second third : List ℕ) (lane place : ℕ) → is_turned ≡ true → same ≡ turned_words here
    → length here ≡ 2 → length same ≡ 2 → length first ≡ 2 → length second ≡ 2 → length third ≡ 2 → lane < 2 → get_or here lane 0 < 2 ^ 64 → place < 64
    → bit (get_or (zip2 bit_and (zip2 bit_and (zip2 bit_xor first same) (zip2 bit_xor second same)) (zip2 bit_xor third same)) lane 0) place
    ≡ all_three is_turned (bit (get_or here lane 0) place) (bit (get_or first lane 0) place) (bit (get_or second lane 0) place) (bit (get_or third lane 0) place)
lane-three_turned is_turned here same first second third lane place is e h p f s t below fits within =
    lane-three same first second third lane place p f s t below
    ∙ (λ i. side (bit (get_or first lane 0) place) i && side (bit (get_or second lane 0) place) i && side (bit (get_or third lane 0) place) i)
  where
    side : (b : Bool) → differ b (bit (get_or same lane 0) place) ≡ differ (differ b (bit (get_or here lane 0) place)) is_turned
    side b =
        ap (differ b) (ap (λ (ws : List ℕ). bit (get_or ws lane 0) place) e ∙ lane-not here lane place h below fits within)
        ∙ turned b (bit (get_or here lane 0) place) is_turned is

pub lane-three_plain : (is_turned : Bool) (here same first second third : List ℕ) (lane place : ℕ) → is_turned ≡ false → same ≡ here
    → length same ≡ 2 → length first ≡ 2 → length second ≡ 2 → length third ≡ 2 → lane < 2
    → bit (get_or (zip2 bit_and (zip2 bit_and (zip2 bit_xor first same) (zip2 bit_xor second same)) (zip2 bit_xor third same)) lane 0) place
    ≡ all_three is_turned (bit (get_or here lane 0) place) (bit (get_or first lane 0) place) (bit (get_or second lane 0) place) (bit (get_or third lane 0) place)
lane-three_plain is_turned here same first second third lane place is e p f s t below =
    lane-three same first second third lane place p f s t below
    ∙ (λ i. side (bit (get_or first lane 0) place) i && side (bit (get_or second lane 0) place) i && side (bit (get_or third lane 0) place) i)
  where
    side : (b : Bool) → differ b (bit (get_or same lane 0) place) ≡ differ (differ b (bit (get_or here lane 0) place)) is_turned
    side b = ap (λ (ws : List ℕ). differ b (bit (get_or ws lane 0) place)) e ∙ plain b (bit (get_or here lane 0) place) is_turned is
