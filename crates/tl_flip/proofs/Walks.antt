-- Flips in turn, of which the first are made.
use Rattle.std.proofs.Common.{◌≡◌, ℕ, ◌+◌, ◌<◌, Bool, true, false, refl, List, [], ◌∷◌, ◌++◌, take, length, get_or, sym, ◌∙◌, ap, subst, ℤ}
use Rattle.std.proofs.lemmas.Option.{slice_get-get_or}
use Rattle.std.proofs.lemmas.List.{take_more}
use Rattle.std.proofs.lemmas.List.Sums.{fold_more}
use Rattle.tl_definitions.specs.declared.Corner.{Corner}
use Rattle.tl_definitions.specs.declared.Tile.{Tile}
use Rattle.tl_definitions.specs.Region.{Region}
use Rattle.tl_definitions.specs.Flip.{can_flip, flip, IsFlipPath}
use Rattle.tl_flip.specs.Flips.{IsTilingOf, StopsAt, flipped}
use Rattle.tl_flip.proofs.Paths.{path-more}

-- the first k flips are lawful, and lead to the tiling with these heights
abbrev pub HasMade : Region → List ℤ → List Tile → List Corner → ℕ → Type 0
HasMade R numbers A vs k = IsFlipPath R A (take k vs) (flipped R A (take k vs)) × IsTilingOf R numbers (flipped R A (take k vs))

pub made-more : (R : Region) (numbers others : List ℤ) (A : List Tile) (vs : List Corner) (k : ℕ) (v d : Corner) → k < length vs → get_or vs k d ≡ v → HasMade R numbers A vs k
    → can_flip R (flipped R A (take k vs)) v ≡ true → IsTilingOf R others (flip R (flipped R A (take k vs)) v) → HasMade R others A vs (k + 1)
made-more R numbers others A vs k v d l here (leads, tiled) can next =
    let list : take (k + 1) vs ≡ take k vs ++ v ∷ [] = take_more vs k d l ∙ ap (λ (u : Corner). take k vs ++ u ∷ []) here in
    let end : flipped R A (take (k + 1) vs) ≡ flip R (flipped R A (take k vs)) v = fold_more (flip R) A vs k d l ∙ ap (flip R (flipped R A (take k vs))) here in (
      subst (λ (G : List Tile). IsFlipPath R A (take (k + 1) vs) G) (sym end)
          (subst (λ (path : List Corner). IsFlipPath R A path (flip R (flipped R A (take k vs)) v)) (sym list) (path-more R A (flipped R A (take k vs)) (take k vs) v leads can)),
      subst (λ (G : List Tile). IsTilingOf R others G) (sym end) next,
    )

module _ (R S : Region) (now new : List ℤ) (A : List Tile) (vs : List Corner) (k : ℕ) (d : Corner) (answer : Bool) (l : k < length vs) (same : S ≡ R) (made : HasMade R now A vs k) (told : (H : List Tile) → IsTilingOf S now H → answer ≡ can_flip S H (get_or vs k d)) where
  here : answer ≡ can_flip R (flipped R A (take k vs)) (get_or vs k d)
  here = subst (λ (T : Region). answer ≡ can_flip T (flipped R A (take k vs)) (get_or vs k d)) same (told (flipped R A (take k vs)) (subst (λ (T : Region). IsTilingOf T now (flipped R A (take k vs))) (sym same) made.1))

  pub stops : answer ≡ false → new ≡ now → StopsAt R A vs k × IsTilingOf R new (flipped R A (take k vs))
  stops refused still = (
    record {
      lawful = made.0;
      next = get_or vs k d;
      is_next = slice_get-get_or vs k d l;
      refused = sym here ∙ refused;
    },
    subst (λ (numbers : List ℤ). IsTilingOf R numbers (flipped R A (take k vs))) (sym still) made.1,
  )

  pub goes_on : answer ≡ true → ((H : List Tile) → IsTilingOf S now H → IsTilingOf S new (flip S H (get_or vs k d))) → HasMade R new A vs (k + 1)
  goes_on lawful next =
      made-more R now new A vs k (get_or vs k d) d l refl made (sym here ∙ lawful)
      (subst (λ (T : Region). IsTilingOf T new (flip T (flipped R A (take k vs)) (get_or vs k d))) same
      (next (flipped R A (take k vs)) (subst (λ (T : Region). IsTilingOf T now (flipped R A (take k vs))) (sym same) made.1)))
