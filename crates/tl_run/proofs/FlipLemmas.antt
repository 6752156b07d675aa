-- From what heights tell of flips to the answers of `flips` and `distance`.
use Rattle.std.proofs.Common.{◌≡◌, ℕ, ◌<◌, ◌≤◌, Bool, true, false, List, length, refl, sym, ◌∙◌, ap, subst, arith, ℤ}
use Rattle.std.specs.Prelude.{nat_lt, if◌then◌else◌}
use Rattle.std.proofs.lemmas.Bool.{ltb-true, lt-ltb}
use Rattle.tl_definitions.specs.declared.Corner.{Corner}
use Rattle.tl_definitions.specs.declared.Tile.{Tile}
use Rattle.tl_definitions.specs.Flip.{IsFlipDistance}
use Rattle.tl_definitions.specs.Region.{Region}
use Rattle.tl_flip.specs.declared.shortest.TheConstants.{FLIP_LIMIT}
use Rattle.tl_flip.specs.Flips.{IsTilingOf, IsDistanceBetween, IsShortestBetween}
use Rattle.tl_run.specs.Answers.{Answer, answer, Is}
use Rattle.tl_run.specs.Flips.{flips_text, too_long, told_path, IsPathAnswer, told_distance, IsDistanceAnswer}

told-few : (path : List Corner) (a : Answer) → length path ≤ FLIP_LIMIT → Is (answer (flips_text path) 0) a → Is (told_path path) a
told-few path a few is = go (nat_lt FLIP_LIMIT (length path)) refl
  where
    go : (b : Bool) → nat_lt FLIP_LIMIT (length path) ≡ b → Is (told_path path) a
    go true e = absurd (omega (arith, few, ltb-true FLIP_LIMIT (length path) e))
    go false e = subst (λ (b : Bool). Is (if b then too_long (length path) else answer (flips_text path) 0) a) (sym e) is

told-many : (path : List Corner) (a : Answer) → FLIP_LIMIT < length path → Is (too_long (length path)) a → Is (told_path path) a
told-many path a many is =
    subst (λ (b : Bool). Is (if b then too_long (length path) else answer (flips_text path) 0) a) (sym (lt-ltb FLIP_LIMIT (length path) many)) is

-- The heights `from` and `to` are those of the tilings A and B. Those that told are heights of one region with them.
module _ (R S : Region) (from to : List ℤ) (A B : List Tile) (a : Answer) (same : S ≡ R) (is_from : IsTilingOf R from A) (is_to : IsTilingOf R to B) where
  pub IsPathAnswer-told : (path : List Corner) → IsShortestBetween S from to path → length path ≤ FLIP_LIMIT → Is (answer (flips_text path) 0) a → IsPathAnswer R A B a
  IsPathAnswer-told path shortest few is = (path, subst (λ (Q : Region). IsShortestBetween Q from to path) same shortest A B is_from is_to, told-few path a few is)

  pub IsPathAnswer-long : (n : ℕ) → IsDistanceBetween S from to n → FLIP_LIMIT < n → Is (too_long n) a → IsPathAnswer R A B a
  IsPathAnswer-long n distance many is = go (subst (λ (Q : Region). IsDistanceBetween Q from to n) same distance A B is_from is_to)
    where
      go : IsFlipDistance R A B n → IsPathAnswer R A B a
      go (path, shortest, long) = (path, shortest, told-many path a (subst (λ (m : ℕ). FLIP_LIMIT < m) (sym long) many) (is ∙ ap too_long (sym long)))

  pub IsDistanceAnswer-told : (n : ℕ) → IsDistanceBetween S from to n → Is (told_distance n) a → IsDistanceAnswer R A B a
  IsDistanceAnswer-told n distance is = (n, subst (λ (Q : Region). IsDistanceBetween Q from to n) same distance A B is_from is_to, is)
