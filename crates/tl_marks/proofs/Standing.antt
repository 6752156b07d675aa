-- The heights fall along all steps to an inner corner, or from it, exactly where all of these are crossed by marks.
use Rattle.std.proofs.Common.{◌≡◌, inl, inr, Bool, true, ◌&&◌, List, [], ◌∷◌, refl, sym, ℤ, int_lt}
use Rattle.std.specs.List.{list_all}
use Rattle.tl_definitions.specs.declared.Corner.{Corner}
use Rattle.tl_definitions.specs.Lattice.{steps_in, steps_out}
use Rattle.tl_definitions.specs.Region.{Region, is_inner}
use Rattle.tl_definitions.specs.Heights.{height, AreLawful}
use Rattle.tl_lists.specs.Lists.{present}
use Rattle.tl_lists.proofs.Members.{In}
use Rattle.tl_closing.specs.Standing.{falls_from, falls_to}
use Rattle.tl_closing.proofs.Stated.{inner-step_in, inner-step_out}
use Rattle.tl_marks.specs.Marks.{crossed_by_marks, crossed_from, crossed_to, mark}
use Rattle.tl_marks.proofs.Crossed.{crossed-falls}

all-same : {A : Type 0} (p q : A → Bool) (xs : List A) → ((x : A) → In x xs → p x ≡ q x) → list_all p xs ≡ list_all q xs
all-same p q [] f = refl
all-same p q (x ∷ xs) f = λ i. f x (inl refl) i && all-same p q xs (λ y j. f y (inr j)) i

module _ (R : Region) (numbers : List ℤ) (lawful : AreLawful R numbers) (v : Corner) (inner : is_inner R v ≡ true) where
  pub low-crossed : falls_to R numbers v ≡ crossed_to R.kind (mark R numbers) v
  low-crossed =
      all-same (λ u. int_lt (height R numbers v) (height R numbers u)) (λ u. crossed_by_marks R numbers u v) (present (steps_in R.kind v))
      (λ u i. sym (crossed-falls R numbers lawful u v (inner-step_in R v u inner i)))

  pub high-crossed : falls_from R numbers v ≡ crossed_from R.kind (mark R numbers) v
  high-crossed =
      all-same (λ w. int_lt (height R numbers w) (height R numbers v)) (λ w. crossed_by_marks R numbers v w) (present (steps_out R.kind v))
      (λ w i. sym (crossed-falls R numbers lawful v w (inner-step_out R v w inner i)))
