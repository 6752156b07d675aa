-- Where numbers spread from a corner of a region, each corner gets one.
use Rattle.std.proofs.Common.{◌≡◌, ◌⊎◌, inl, inr, ℕ, Bool, true, false, not, List, Option, Some, None, refl, sym, ◌∙◌, subst, arith, ◌^◌, ℤ, pos, neg_ℤ, ◌+ℤ◌, ◌≤ℤ◌}
use Rattle.std.specs.Prelude.{slice_get, ◌≢◌}
use Rattle.std.specs.Cmp.{signed_Decides}
use Rattle.std.specs.Ordering.{int_eq}
use Rattle.std.proofs.lemmas.Bool.{cases_Bool, false≢true}
use Rattle.std.proofs.lemmas.Int.{ints}
use Rattle.tl_definitions.specs.declared.Corner.{Corner}
use Rattle.tl_definitions.specs.Region.{Region, is_corner_of, is_step}
use Rattle.tl_definitions.specs.Accepted.{Accepted}
use Rattle.tl_closing.proofs.Stated.{handed-on}
use Rattle.tl_grid.specs.Grid.{IsGrid}
use Rattle.tl_search.specs.declared.spreading.Source.{Source}
use Rattle.tl_search.specs.declared.spreading.TheConstants.{UNREACHED}
use Rattle.tl_search.specs.Graphs.{GraphMeaning}
use Rattle.tl_search.specs.Spreading.{AreSources, AreLeastNumbers}
use Rattle.tl_extreme.specs.CornerGraph.{place, run_of}
use Rattle.tl_extreme.proofs.Leading.{next-number}
use Rattle.tl_extreme.proofs.CornerPlaces.{StepBy, step-runs}

pub unreached-cases : (z : ℤ) → (z ≡ UNREACHED) ⊎ ((z ≢ UNREACHED) × (int_eq z (UNREACHED) ≡ false))
unreached-cases z = go (cases_Bool (int_eq z (UNREACHED)))
  where
    go : (int_eq z (UNREACHED) ≡ true) ⊎ (int_eq z (UNREACHED) ≡ false) → (z ≡ UNREACHED) ⊎ ((z ≢ UNREACHED) × (int_eq z (UNREACHED) ≡ false))
    go (inl e) = inl ((signed_Decides z (UNREACHED)).0 e)
    go (inr e) = inr ((λ same. cc (e, (signed_Decides z (UNREACHED)).1 same)), e)

abbrev is_number : Option ℤ → Bool
is_number None = false
is_number (Some z) = not (int_eq z (UNREACHED))

number-parts : (o : Option ℤ) → is_number o ≡ true → (z : ℤ) × (o ≡ Some z) × (z ≢ UNREACHED)
number-parts None e = absurd (false≢true e)
number-parts (Some z) e = go (unreached-cases z)
  where
    go : (z ≡ UNREACHED) ⊎ ((z ≢ UNREACHED) × (int_eq z (UNREACHED) ≡ false)) → (y : ℤ) × (Some z ≡ Some y) × (y ≢ UNREACHED)
    go (inl same) = let is : int_eq z (UNREACHED) ≡ true = (signed_Decides z (UNREACHED)).1 same in absurd (false≢true (sym (rw is refl) ∙ e))
    go (inr (some, differs)) = (z, refl, some)

number-from : (o : Option ℤ) (z : ℤ) → o ≡ Some z → z ≢ UNREACHED → is_number o ≡ true
number-from None z e some = cc e
number-from (Some y) z e some = go (unreached-cases y)
  where
    go : (y ≡ UNREACHED) ⊎ ((y ≢ UNREACHED) × (int_eq y (UNREACHED) ≡ false)) → not (int_eq y (UNREACHED)) ≡ true
    go (inl same) = let is : y ≡ z = cc e in absurd (some (sym is ∙ same))
    go (inr (some, differs)) = rw differs refl

-- the corner has a number
abbrev pub IsNumbered : Region → List ℤ → Corner → Type 0
IsNumbered R numbers v = (z : ℤ) × (slice_get numbers (place R v) ≡ Some z) × (z ≢ UNREACHED)

module _ (R : Region) (is_grid : IsGrid R) (accepted : Accepted R) (negated : Bool) (sources : List Source) (numbers : List ℤ) (least : AreLeastNumbers (run_of negated R) sources numbers) where
  abbrev is_numbered : Corner → Bool
  is_numbered v = is_number (slice_get numbers (place R v))

  -- a step leads from a number to one that is greater by no more than 1
  pub next-at : (u v : Corner) (z : ℤ) → StepBy negated R u v → slice_get numbers (place R u) ≡ Some z → z ≢ UNREACHED
      → (n : ℤ) × (slice_get numbers (place R v) ≡ Some n) × (n ≢ UNREACHED) × (n ≤ℤ (z +ℤ pos 1))
  next-at u v z s e some = next-number (run_of negated R) sources numbers least (place R u) (place R v) z (step-runs R is_grid negated u v s) e some

  passes : (u v : Corner) → StepBy negated R u v → is_numbered u ≡ true → is_numbered v ≡ true
  passes u v s e =
      let (z, at, some) = number-parts (slice_get numbers (place R u)) e in
      let (n, there, numbered, small) = next-at u v z s at some in
      number-from (slice_get numbers (place R v)) n there numbered

  module _ (start : Corner) (on_start : is_corner_of R start ≡ true) (starts : IsNumbered R numbers start) where
    start-numbered : is_numbered start ≡ true
    start-numbered = number-from (slice_get numbers (place R start)) starts.0 starts.1 starts.2

    forwards : ((u v : Corner) → is_step R u v ≡ true → is_numbered u ≡ true → is_numbered v ≡ true)
        → (v : Corner) → is_corner_of R v ≡ true → is_numbered v ≡ true
    forwards pass v corner = handed-on R is_numbered start v accepted pass on_start corner start-numbered

    backwards : ((u v : Corner) → is_step R v u ≡ true → is_numbered u ≡ true → is_numbered v ≡ true)
        → (v : Corner) → is_corner_of R v ≡ true → is_numbered v ≡ true
    backwards pass v corner = go (cases_Bool (is_numbered v))
      where
        against : (u w : Corner) → is_step R u w ≡ true → not (is_numbered u) ≡ true → not (is_numbered w) ≡ true
        against u w s e = turn (cases_Bool (is_numbered w))
          where
            turn : (is_numbered w ≡ true) ⊎ (is_numbered w ≡ false) → not (is_numbered w) ≡ true
            turn (inr f) = rw f refl
            turn (inl f) =
                let no : not (is_numbered u) ≡ false = rw (pass w u s f) refl in
                cc (no, e)

        go : (is_numbered v ≡ true) ⊎ (is_numbered v ≡ false) → is_numbered v ≡ true
        go (inl f) = f
        go (inr f) =
            let not_start = handed-on R (λ u. not (is_numbered u)) v start accepted against corner on_start (rw f refl) in
            let no : not (is_numbered start) ≡ false = rw start-numbered refl in
            cc (no, not_start)

    by : (t : Bool) → negated ≡ t → (v : Corner) → is_corner_of R v ≡ true → is_numbered v ≡ true
    by false is = forwards (λ u v s e. passes u v (subst (λ (t : Bool). StepBy t R u v) (sym is) s) e)
    by true is = backwards (λ u v s e. passes u v (subst (λ (t : Bool). StepBy t R u v) (sym is) s) e)

    pub all-numbered : (v : Corner) → is_corner_of R v ≡ true → IsNumbered R numbers v
    all-numbered v corner = number-parts (slice_get numbers (place R v)) (by negated refl v corner)

-- no number is less than those of the sources can be
pub numbers-low : (M : GraphMeaning) (sources : List Source) (numbers : List ℤ) → AreSources M sources → AreLeastNumbers M sources numbers
    → (i : ℕ) (z : ℤ) → slice_get numbers i ≡ Some z → neg_ℤ (pos (2 ^ 30)) ≤ℤ z
numbers-low M sources numbers are least i z at = go (unreached-cases z)
  where
    go : (z ≡ UNREACHED) ⊎ ((z ≢ UNREACHED) × (int_eq z UNREACHED ≡ false)) → neg_ℤ (pos (2 ^ 30)) ≤ℤ z
    go (inl same) = omega (arith, ints, same)
    go (inr (some, differs)) =
        let r = least.reached i z at some in
        let low = are.low r.i r.source r.is_source in
        let adds = r.adds in
        omega (arith, ints, low, adds)
