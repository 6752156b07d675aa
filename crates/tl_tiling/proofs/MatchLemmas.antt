-- Which cells are matched.
use Rattle.std.proofs.Common.{◌≡◌, ◌≢◌, ℕ, ◌+◌, ◌<◌, ◌⊎◌, inl, inr, Bool, true, false, not, List, drop, refl, sym, ◌∙◌, ap, subst, cond, Some, None, add-one}
use Rattle.std.specs.Prelude.{find, slice_get, ◌==◌}
use Rattle.std.proofs.lemmas.Option.{slice_get_within, get_or_from_slice_get}
use Rattle.std.proofs.lemmas.Bool.{cases_Bool, or_left, and_from, eqb-true, eq-eqb}
use Rattle.std.proofs.Math.Seq.{drop-cons}
use Rattle.tl_definitions.specs.declared.Cell.{Cell}
use Rattle.tl_definitions.specs.Lattice.{cell, is_cell, above}
use Rattle.tl_definitions.specs.Region.{Region, has}
use Rattle.tl_definitions.proofs.Cells.{cell-same, cell_eq-refl, In-any, In-has, cell_lt-cases}
use Rattle.tl_definitions.proofs.Partners.{cells-linked}
use Rattle.tl_definitions.proofs.Regions.{has-within}
use Rattle.tl_formats.specs.Drawing.{named, is_letter, is_matched, is_answered}
use Rattle.tl_formats.proofs.Drawings.{matched-parts, letter-named}
use Rattle.tl_lists.proofs.Tests.{some_same}
use Rattle.tl_grid.specs.Grid.{IsGrid}
use Rattle.tl_tiling.specs.Letters.{letter_at, partner_in, is_settled, AreLettered, IsPair}
use Rattle.tl_tiling.proofs.ReadLemmas.{first_failing, none_failing}

module _ (R : Region) (letters : List ℕ) (lettered : AreLettered R letters) where
  -- A letter stands where the region has a cell.
  letter-has : (a : Cell) → a.r < R.rows → a.c < R.columns → letter_at R letters a ≢ 46 → has R a ≡ true
  letter-has a h k other = elim (cases_Bool (has R a)) [ inl e ↦ e | inr e ↦ absurd (other (lettered.dotted a h k e)) ]

  -- where two cells name each other, the one is matched by its letter where the other has its own
  pub answered : (a b : Cell) (near : Bool) (back : ℕ) → IsPair R.kind near a b (letter_at R letters a) back → near ≡ true → b.r < R.rows → b.c < R.columns → letter_at R letters b ≡ back
      → is_matched R (partner_in R letters) a ≡ true
  answered a b near back p n h k e =
      let dot : back ≢ 46 = λ d. cc (sym p.is_named, ap (λ (l : ℕ). named l b) d) in
      let inside : has R b ≡ true = letter-has b h k (λ d. dot (sym e ∙ d)) in
      let named_back : is_cell a (partner_in R letters b) ≡ true = ap (is_cell a) (ap (λ (l : ℕ). named l b) e ∙ p.is_named) ∙ cell_eq-refl a in
      ap (is_answered R (partner_in R letters) a) p.names ∙ and_from _ _ (and_from _ _ inside (p.share ∙ n)) named_back

  pub answers : (a b : Cell) (near : Bool) (back : ℕ) → IsGrid R → IsPair R.kind near a b (letter_at R letters a) back → is_matched R (partner_in R letters) a ≡ true
      → (b.r < R.rows) × (b.c < R.columns) × (letter_at R letters b ≡ back)
  answers a b near back k p e =
      let (d, names, inside, share, named_back) = matched-parts R (partner_in R letters) a e in
      let same : d ≡ b = some_same d b (sym names ∙ p.names) in
      let within : (b.r < R.rows) × (b.c < R.columns) = has-within R b k.placed (subst (λ (x : Cell). has R x ≡ true) same inside) in
      let here : partner_in R letters b ≡ Some a = subst (λ (x : Cell). partner_in R letters x ≡ Some a) same named_back in
      (within.0, within.1, sym (letter-named (letter_at R letters b) b a here) ∙ letter-named back b a p.is_named)

  settled-matched : (a : Cell) → has R a ≡ true → is_settled R letters a ≡ is_matched R (partner_in R letters) a
  settled-matched a h =
      elim (cases_Bool (letter_at R letters a == 46)) [
        | inl e ↦ let dot : is_letter (Some 46) ≡ true = ap (λ (l : ℕ). is_letter (Some l)) (sym (eqb-true _ _ e)) ∙ lettered.inside a h in cc dot
        | inr e ↦ rw e refl
      ]

  -- the first place that isn't settled is the first unmatched cell
  pub unsettled-first : (r c : ℕ) → IsGrid R → r < R.rows → c < R.columns → ((i k : ℕ) → i < r → k < R.columns → is_settled R letters (cell i k) ≡ true)
      → ((k : ℕ) → k < c → is_settled R letters (cell r k) ≡ true) → is_settled R letters (cell r c) ≡ false
      → find (λ a. not (is_matched R (partner_in R letters) a)) R.cells ≡ Some (cell r c)
  unsettled-first r c k h j above before fails =
      first_failing (is_matched R (partner_in R letters)) R.cells (cell r c) (cells-linked R k.placed) (In-any (cell r c) R.cells inside) (sym (settled-matched (cell r c) inside) ∙ fails)
      (λ b i l. let e : has R b ≡ true = In-has b R.cells i in sym (settled-matched b e) ∙ settled b (has-within R b k.placed e).1 (cell_lt-cases b (cell r c) l))
    where
      inside : has R (cell r c) ≡ true
      inside = letter-has (cell r c) h j (λ e. let dot : is_settled R letters (cell r c) ≡ true = or_left _ _ (eq-eqb (letter_at R letters (cell r c)) 46 e) in cc (sym fails, dot))

      settled : (b : Cell) → b.c < R.columns → (b.r < r) ⊎ ((b.r ≡ r) × (b.c < c)) → is_settled R letters b ≡ true
      settled b w (inl l) = above b.r b.c l w
      settled b w (inr l) = ap (is_settled R letters) (cell-same b (cell r b.c) l.0 refl) ∙ before b.c l.1

  pub all-settled : IsGrid R → ((i k : ℕ) → i < R.rows → k < R.columns → is_settled R letters (cell i k) ≡ true)
      → find (λ a. not (is_matched R (partner_in R letters) a)) R.cells ≡ None
  all-settled k all = none_failing (is_matched R (partner_in R letters)) R.cells (λ b i.
      let h : has R b ≡ true = In-has b R.cells i in
      let w : (b.r < R.rows) × (b.c < R.columns) = has-within R b k.placed h in
      sym (settled-matched b h) ∙ all b.r b.c w.0 w.1)

-- an element that fails is passed over
pub find-drop : (p : Cell → Bool) (cells : List Cell) (i : ℕ) (a : Cell) → slice_get cells i ≡ Some a
    → find p (drop i cells) ≡ cond (p a) (Some a) (find p (drop (i + 1) cells))
find-drop p cells i a e =
    ap (find p) (drop-cons cells i a (slice_get_within cells i a e))
    ∙ rw (get_or_from_slice_get cells i a a e, add-one) refl
