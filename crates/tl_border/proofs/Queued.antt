-- The part of a list that a queue holds: from the first element that isn't taken to the last that is put in.
use Rattle.std.proofs.Common.{◌≡◌, ℕ, zero, suc, ◌+◌, ◌<◌, ◌≤◌, List, [], ◌∷◌, ◌++◌, length, take, drop, get_or, sym, ap, ◌∙◌, arith}
use Rattle.std.specs.Prelude.{Some, slice_get}
use Rattle.std.proofs.Math.Seq.{take-suc}
use Rattle.std.proofs.lemmas.List.{drop-append-le, length-take-le, length-take, get_or-take}
use Rattle.std.proofs.lemmas.Option.{slice_get_within, slice_get-get_or, get_or_from_slice_get}

module _ {X : Type 0} where
  -- one element more is put in
  pub one_in : (rows : List X) (got sent : ℕ) (x : X) → got ≤ sent → slice_get rows sent ≡ Some x
      → drop got (take (sent + 1) rows) ≡ drop got (take sent rows) ++ x ∷ []
  one_in rows got sent x within at =
      let inside : sent < length rows = slice_get_within rows sent x at in
      let suc_is : sent + 1 ≡ suc sent = omega arith in
      let counted = length-take-le sent rows (omega arith) in
      let long : got ≤ length (take sent rows) = omega (arith, counted) in
      ap (λ n. drop got (take n rows)) suc_is
      ∙ ap (drop got) (take-suc rows sent x inside ∙ ap (λ y. take sent rows ++ y ∷ []) (get_or_from_slice_get rows sent x x at))
      ∙ drop-append-le got (take sent rows) (x ∷ []) long

  front : (ys : List X) (got : ℕ) (x : X) (rest : List X) → x ∷ rest ≡ drop got ys
      → (slice_get ys got ≡ Some x) × (rest ≡ drop (suc got) ys)
  front [] zero x rest e = absurd (omega (arith, ap length e))
  front [] (suc got) x rest e = absurd (omega (arith, ap length e))
  front (y ∷ ys) zero x rest e = (ap (λ l. slice_get l 0) (sym e), ap (drop 1) e)
  front (y ∷ ys) (suc got) x rest e = front ys got x rest e

  -- the first element is taken
  pub one_out : (rows : List X) (got sent : ℕ) (x : X) (rest : List X) → x ∷ rest ≡ drop got (take sent rows)
      → (slice_get rows got ≡ Some x) × (got < sent) × (rest ≡ drop (got + 1) (take sent rows))
  one_out rows got sent x rest e =
      let found = front (take sent rows) got x rest e in
      let inside : got < length (take sent rows) = slice_get_within (take sent rows) got x found.0 in
      let counted = length-take sent rows in
      let below : got < sent = omega (arith, counted) in
      let within : got < length rows = omega (arith, counted) in
      let is : get_or rows got x ≡ x = sym (get_or-take sent rows got x below) ∙ get_or_from_slice_get (take sent rows) got x x found.0 in
      let suc_is : suc got ≡ got + 1 = omega arith in
      (slice_get-get_or rows got x within ∙ ap Some is, below, found.1 ∙ ap (λ n. drop n (take sent rows)) suc_is)
