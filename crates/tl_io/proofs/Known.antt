-- Laws of the bytes that a source or a sink tells.
use Rattle.std.proofs.Common.{◌≡◌, ℕ, List, [], ◌++◌, Option, Some, None, refl, ap, append_assoc, append-nil, sym, take, drop, ◌∙◌, ◌-◌, ◌+◌, ◌≤◌, length, arith, take-append-drop}
use Rattle.std.proofs.lemmas.List.{take_all, length-drop, length-take-le, length-append}
use Rattle.std.specs.Io.KnownBytes.{prepend_known, append_known}

pub append_known-append : (known : Option (List ℕ)) (xs ys : List ℕ) → append_known (append_known known xs) ys ≡ append_known known (xs ++ ys)
append_known-append None xs ys = refl
append_known-append (Some zs) xs ys = ap (λ (l : List ℕ). Some l) (append_assoc zs xs ys)

pub append_known-nil : (known : Option (List ℕ)) → append_known known [] ≡ known
append_known-nil None = refl
append_known-nil (Some zs) = ap (λ (l : List ℕ). Some l) (append-nil zs)

pub prepend_known-append : (known : Option (List ℕ)) (xs ys : List ℕ) → prepend_known xs (prepend_known ys known) ≡ prepend_known (xs ++ ys) known
prepend_known-append None xs ys = refl
prepend_known-append (Some zs) xs ys = ap (λ (l : List ℕ). Some l) (sym (append_assoc xs ys zs))

pub prepend_known-nil : (known : Option (List ℕ)) → prepend_known [] known ≡ known
prepend_known-nil None = refl
prepend_known-nil (Some zs) = refl

-- what is left after n bytes
pub rest_after : (rest : List ℕ) (n : ℕ) → take (length rest - n) (drop n rest) ≡ drop n rest
rest_after rest n = take_all (length rest - n) (drop n rest) (omega (arith, length-drop n rest))

pub seam : (part bytes rest : List ℕ) (n : ℕ) → part ++ rest ≡ bytes → (part ++ take n rest) ++ take (length rest - n) (drop n rest) ≡ bytes
seam part bytes rest n e =
    ap (λ l. (part ++ take n rest) ++ l) (rest_after rest n)
    ∙ (append_assoc part (take n rest) (drop n rest) ∙ (ap (λ l. part ++ l) (take-append-drop n rest) ∙ e))

-- the bytes so far and those of one more read
pub given_more : (old middle new : Option (List ℕ)) (xs ys : List ℕ) → old ≡ prepend_known xs middle → middle ≡ prepend_known ys new → old ≡ prepend_known (xs ++ ys) new
given_more old middle new xs ys e f = e ∙ (ap (prepend_known xs) f ∙ prepend_known-append new xs ys)

pub length-append_take : (xs buf : List ℕ) (n : ℕ) → n ≤ length buf → length (xs ++ take n buf) ≡ length xs + n
length-append_take xs buf n h = omega (arith, length-append xs (take n buf), length-take-le n buf h)
