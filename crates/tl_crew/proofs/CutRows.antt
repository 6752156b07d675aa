-- The rows of words of the bands of a cut.
use Rattle.std.proofs.Common.{◌≡◌, ℕ, ◌+◌, ◌-◌, ◌<◌, ◌≤◌, ◌⊎◌, inl, inr, List, [], ◌∷◌, ◌++◌, length, get_or, sym, ◌∙◌, ap, subst, arith, ◌/◌, Bool, true, false, cond, nat_lt}
use Rattle.std.proofs.Math.ListN.{get_or-append}
use Rattle.std.proofs.Math.Seq.{get_or-append_right}
use Rattle.std.proofs.lemmas.Bool.{cases_lt, false_from_ne_true, lt-ltb, ltb-true}
use Rattle.std.proofs.lemmas.List.{get_or_default, get_or_past, get_or_push, length-append, length_push}
use Rattle.std.proofs.lemmas.Option.{get_or_from_slice_get}
use Rattle.tl_definitions.specs.Region.{Region}
use Rattle.tl_layout.specs.declared.layout.Layout.{Layout}
use Rattle.tl_layout.specs.Layouts.{IsLayoutOf}
use Rattle.tl_bands.specs.Cuts.{Cut, IsCut}
use Rattle.tl_bands.proofs.Bands.{below_rows, few_bands}
use Rattle.tl_band.specs.declared.band.Band.{Band}
use Rattle.tl_band.specs.Bands.{IsOfRows}
use Rattle.tl_crew.specs.Bands.{AreBandsIn}
use Rattle.tl_crew.specs.Cuts.{AreBandsOf, IsBandOf, bands_by_hand, first_row}

first_row-all : (cut : Cut) → first_row cut (length cut.firsts) ≡ cut.rows + 1
first_row-all cut = ap (λ (n : ℕ). n + 1) (get_or_past cut.firsts (length cut.firsts) cut.rows (omega arith))

-- the bands of a cut end with the row of words before the last two
pub first_row-last : (R : Region) (l : Layout) (cut : Cut) (j : ℕ) → IsLayoutOf R l → cut.rows ≡ R.rows + 1 → j ≡ length cut.firsts → first_row cut j ≡ l.height - 2
first_row-last R l cut j layout rows e =
    let all : first_row cut j ≡ cut.rows + 1 = ap (λ (n : ℕ). first_row cut n) e ∙ first_row-all cut in
    omega (arith, all, rows, layout.height)

module _ (cut : Cut) (is : IsCut cut.rows cut.firsts) where
  pub first_row-0 : first_row cut 0 ≡ 1
  first_row-0 = ap (λ (n : ℕ). n + 1) (get_or_from_slice_get cut.firsts 0 0 cut.rows is.begins)

  -- a band has a row
  pub rises : (j : ℕ) → j < length cut.firsts → first_row cut j < first_row cut (j + 1)
  rises j within =
      let row : get_or cut.firsts j cut.rows < get_or cut.firsts (j + 1) cut.rows =
      subst (λ (n : ℕ). n < get_or cut.firsts (j + 1) cut.rows) (get_or_default cut.firsts j 0 cut.rows within) (is.has_row j within) in
      omega (arith, row)

  -- no row of words behind the last corners'
  pub first_row-end : (j : ℕ) → first_row cut j ≤ cut.rows + 1
  first_row-end j = go (cases_lt j (length cut.firsts))
    where
      go : (j < length cut.firsts) ⊎ (length cut.firsts ≤ j) → first_row cut j ≤ cut.rows + 1
      go (inl h) =
          let e : get_or cut.firsts j 0 ≡ get_or cut.firsts j cut.rows = get_or_default cut.firsts j 0 cut.rows h in
          omega (arith, e, below_rows cut.rows cut.firsts is j h)
      go (inr h) = let e : get_or cut.firsts j cut.rows ≡ cut.rows = get_or_past cut.firsts j cut.rows h in omega (arith, e)

  pub few : length cut.firsts ≤ cut.rows
  few = few_bands cut.rows cut.firsts is

  module _ (l : Layout) where
    -- a band of these rows may begin a stretch
    pub band-of : (j first end : ℕ) (b : Band) → l.height ≡ cut.rows + 3 → j < length cut.firsts → first ≡ first_row cut j → end ≡ first_row cut (j + 1)
        → IsOfRows l first end b → IsBandOf l cut j b
    band-of j first end b height within begins ends rows =
        let some : first_row cut j < first_row cut (j + 1) = rises j within in
        let top : first_row cut (j + 1) ≤ cut.rows + 1 = first_row-end (j + 1) in
        record {
          placed = record {
            size = rows.size;
            above_first = omega (arith, rows.upper_own, rows.upper_beside);
            below_last = omega (arith, rows.lower_own, rows.lower_beside);
            some = omega (arith, rows.upper_own, rows.lower_own, begins, ends, some);
            end = omega (arith, rows.lower_beside, ends, top, height);
          };
          first = rows.upper_own ∙ begins;
          end = rows.lower_beside ∙ ends;
        }

    -- bands that follow one another are bands in the rows from the first row of the first to before that of the next
    pub bands-in : (from to : ℕ) (bands : List Band) → from < to → to ≤ length cut.firsts → from + length bands ≡ to → AreBandsOf l cut from bands
        → AreBandsIn l (first_row cut from) (first_row cut to) bands
    bands-in from to bands some within count are = record {
      each = λ k d inside. (are k d inside).placed;
      stacked = record {
        some = one;
        has_row = λ k d inside.
            let row : first_row cut (from + k) < first_row cut (from + k + 1) = rises (from + k) (omega (arith, inside, count, within)) in
            omega (arith, (are k d inside).first, (are k d inside).end, row);
        begins = λ d. let e : from + 0 ≡ from = omega arith in (are 0 d one).first ∙ ap (λ (n : ℕ). first_row cut n) e;
        next = λ k d inside.
            let e : from + (k + 1) ≡ from + k + 1 = omega arith in
            (are (k + 1) d inside).first ∙ (ap (λ (n : ℕ). first_row cut n) e ∙ sym (are k d (omega (arith, inside))).end);
        ends = λ d.
            let e : from + (length bands - 1) + 1 ≡ to = omega (arith, count, one) in
            (are (length bands - 1) d (omega (arith, one))).end ∙ ap (λ (n : ℕ). first_row cut n) e;
      };
    }
      where
        one : 0 < length bands
        one = omega (arith, some, count)

-- one band more
pub bands-pushed : (l : Layout) (cut : Cut) (from j : ℕ) (old new : List Band) (b : Band) → new ≡ old ++ b ∷ [] → from + length old ≡ j → AreBandsOf l cut from old
    → IsBandOf l cut j b → AreBandsOf l cut from new
bands-pushed l cut from j old new b pushed count are is = subst (λ (bands : List Band). AreBandsOf l cut from bands) (sym pushed) more
  where
    more : AreBandsOf l cut from (old ++ b ∷ [])
    more k d inside = go (cases_lt k (length old))
      where
        go : (k < length old) ⊎ (length old ≤ k) → IsBandOf l cut (from + k) (get_or (old ++ b ∷ []) k d)
        go (inl h) = subst (λ (x : Band). IsBandOf l cut (from + k) x) (sym (get_or-append old (b ∷ []) d k h)) (are k d h)
        go (inr h) =
            let long : length (old ++ b ∷ []) ≡ length old + 1 = length_push old b in
            let at : length old ≡ k = omega (arith, h, inside, long) in
            let e : j ≡ from + k = omega (arith, count, at) in
            subst (λ (x : Band). IsBandOf l cut (from + k) x) (sym (get_or_push old b d k at)) (subst (λ (n : ℕ). IsBandOf l cut n b) e is)

-- bands after others
pub bands-joined : (l : Layout) (cut : Cut) (from middle : ℕ) (above below : List Band) → from + length above ≡ middle → AreBandsOf l cut from above
    → AreBandsOf l cut middle below → AreBandsOf l cut from (above ++ below)
bands-joined l cut from middle above below count are also k d inside = go (cases_lt k (length above))
  where
    go : (k < length above) ⊎ (length above ≤ k) → IsBandOf l cut (from + k) (get_or (above ++ below) k d)
    go (inl h) = subst (λ (x : Band). IsBandOf l cut (from + k) x) (sym (get_or-append above below d k h)) (are k d h)
    go (inr h) =
        let long : length (above ++ below) ≡ length above + length below = length-append above below in
        let e : middle + (k - length above) ≡ from + k = omega (arith, count, h) in
        subst (λ (x : Band). IsBandOf l cut (from + k) x) (sym (get_or-append_right above below k d h))
        (subst (λ (n : ℕ). IsBandOf l cut n (get_or below (k - length above) d)) e (also (k - length above) d (omega (arith, h, inside, long))))

-- ---- so many bands of each hand

pub halves-one : (bands count first : ℕ) → count ≡ bands → count ≤ count - count / 2 → 0 + first ≡ count - count / 2 → first ∷ [] ≡ bands_by_hand bands
halves-one bands count first e half has =
    let all : first ≡ bands = omega (arith, e, half, has) in
    let few : nat_lt 1 bands ≡ false = false_from_ne_true (nat_lt 1 bands) (λ t. let more = ltb-true 1 bands t in omega (arith, more, e, half)) in
    ap (λ (n : ℕ). n ∷ []) all ∙ sym (ap (λ (b : Bool). cond b ((bands - bands / 2) ∷ (bands / 2) ∷ []) (bands ∷ [])) few)

pub halves-two : (bands count first second : ℕ) → count ≡ bands → count - count / 2 < count → 0 + first ≡ count - count / 2 → count - count / 2 + second ≡ count
    → first ∷ second ∷ [] ≡ bands_by_hand bands
halves-two bands count first second e half has rest =
    let upper : first ≡ bands - bands / 2 = omega (arith, e, has) in
    let lower : second ≡ bands / 2 = omega (arith, e, half, rest) in
    let more : nat_lt 1 bands ≡ true = lt-ltb 1 bands (omega (arith, e, half)) in
    ap (λ (n : ℕ). n ∷ second ∷ []) upper
    ∙ (ap (λ (n : ℕ). (bands - bands / 2) ∷ n ∷ []) lower ∙ sym (ap (λ (b : Bool). cond b ((bands - bands / 2) ∷ (bands / 2) ∷ []) (bands ∷ [])) more))
