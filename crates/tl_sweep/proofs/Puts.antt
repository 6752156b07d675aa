-- What stands in a list in which a part was put.
use Rattle.std.proofs.Common.{◌≡◌, ℕ, ◌+◌, ◌-◌, ◌<◌, ◌≤◌, List, ◌++◌, length, take, drop, get_or, sym, ◌∙◌, ap, subst, arith}
use Rattle.std.proofs.lemmas.List.{get_or_append_left, get_or-append-add, get_or-append_right, get_or-drop, get_or-take, length-append, length-drop, length-take-le}
use Rattle.tl_lists.specs.Lists.{put_at}

module _ {A : Type 0} (place : ℕ) (these list : List A) (within : place + length these ≤ length list) where
  front : length (take place list) ≡ place
  front = length-take-le place list (omega (arith, within))

  fronts : length (take place list ++ these) ≡ place + length these
  fronts = length-append (take place list) these ∙ ap (λ (n : ℕ). n + length these) front

  pub length-put_at : length (put_at place these list) ≡ length list
  length-put_at = omega (arith, within, fronts, length-append (take place list ++ these) (drop (place + length these) list), length-drop (place + length these) list)

  pub put_at-in : (t : ℕ) (d : A) → t < length these → get_or (put_at place these list) (place + t) d ≡ get_or these t d
  put_at-in t d h =
      get_or_append_left (take place list ++ these) (drop (place + length these) list) d (place + t) (omega (arith, h, fronts))
      ∙ ap (λ (n : ℕ). get_or (take place list ++ these) (n + t) d) (sym front) ∙ get_or-append-add (take place list) these t d

  pub put_at-below : (i : ℕ) (d : A) → i < place → get_or (put_at place these list) i d ≡ get_or list i d
  put_at-below i d h =
      get_or_append_left (take place list ++ these) (drop (place + length these) list) d i (omega (arith, h, fronts))
      ∙ get_or_append_left (take place list) these d i (omega (arith, h, front)) ∙ get_or-take place list i d h

  pub put_at-above : (i : ℕ) (d : A) → place + length these ≤ i → get_or (put_at place these list) i d ≡ get_or list i d
  put_at-above i d h =
      get_or-append_right (take place list ++ these) (drop (place + length these) list) (place + length these) i d fronts h
      ∙ get_or-drop (place + length these) list (i - (place + length these)) d
      ∙ ap (λ (n : ℕ). get_or list n d) (omega (arith, h))
