-- Whether a start gathers can be decided, since the tilings of a region can be gone through one by one.
use Rattle.std.proofs.Common.{◌≡◌, ℕ, ◌⊎◌, inl, inr, Bool, true, false, List, [], ◌∷◌, refl, sym, ◌∙◌, subst}
use Rattle.std.specs.Prelude.{IsTrue}
use Rattle.std.specs.Bool.{Decides}
use Rattle.std.proofs.lemmas.Bool.{and_from}
use Rattle.std.proofs.lemmas.Slice.Eq.{slice_eq-Decides}
use Rattle.tl_definitions.specs.declared.Tile.{Tile}
use Rattle.tl_definitions.specs.Region.{Region}
use Rattle.tl_definitions.specs.Accepted.{IsPlaced}
use Rattle.tl_definitions.specs.Tiling.{tile_eq, tiles, is_tiling}
use Rattle.tl_definitions.specs.Sweep.{carried, Gathers}
use Rattle.tl_lists.proofs.Members.{In, In-filter_parts}
use Rattle.tl_definitions.proofs.Tiles.{In-tilings}
use Rattle.tl_lists.proofs.Orders.{sublists}
use Rattle.tl_definitions.proofs.Cells.{cell_eq-refl}
use Rattle.tl_definitions.proofs.Tilings.{tile_eq-same}
use Rattle.tl_formats.proofs.Cases.{found}
use Rattle.tl_formats.proofs.Cases.{tiling_eq}
use Rattle.tl_closing.proofs.Stated.{tiles-linked}

tile_eq-Decides : (s t : Tile) → Decides (tile_eq s t) (s ≡ t)
tile_eq-Decides s t = (tile_eq-same s t, λ same. subst (λ (x : Tile). tile_eq s x ≡ true) same (and_from _ _ (cell_eq-refl s.first) (cell_eq-refl s.second)))

pub tiling_eq-Decides : (A B : List Tile) → Decides (tiling_eq A B) (A ≡ B)
tiling_eq-Decides A B = slice_eq-Decides {E = tile_eq} tile_eq-Decides A B (tiling_eq A B) refl

tilings-same : (A B : List Tile) → (A ≡ B) ⊎ (¬ (A ≡ B))
tilings-same A B = go (tiling_eq A B) refl
  where
    go : (t : Bool) → tiling_eq A B ≡ t → (A ≡ B) ⊎ (¬ (A ≡ B))
    go true e = inl ((tiling_eq-Decides A B).0 e)
    go false e = inr (λ same. cc (e, (tiling_eq-Decides A B).1 same))

-- each element of a list has a property, or there is one that hasn't
all-or-some : {X : Type 0} (P : X → Type 0) → ((x : X) → P x ⊎ (¬ P x)) → (xs : List X) → ((x : X) → In x xs → P x) ⊎ ((x : X) × In x xs × (¬ P x))
all-or-some P decide [] = inl (λ x i. absurd i)
all-or-some {X} P decide (x ∷ xs) = go (decide x) (all-or-some P decide xs)
  where
    go : P x ⊎ (¬ P x) → ((y : X) → In y xs → P y) ⊎ ((y : X) × In y xs × (¬ P y)) → ((y : X) → In y (x ∷ xs) → P y) ⊎ ((y : X) × In y (x ∷ xs) × (¬ P y))
    go (inr fails) rest = inr (x, inl refl, fails)
    go (inl holds) (inr (y, i, fails)) = inr (y, inr i, fails)
    go (inl holds) (inl rest) = inl (λ y i. elim i [ inl same ↦ subst P (sym same) holds | inr j ↦ rest y j ])

-- It is enough to compare where each tiling is carried with where the first one is.
pub gathers-or-not : (R : Region) (bits : ℕ → ℕ → Bool) (T : ℕ) → IsPlaced R → Gathers R bits T ⊎ (¬ Gathers R bits T)
gathers-or-not R bits T placed = go (found R) (λ A tiling. In-tilings R A (tiles-linked R placed) tiling) (λ A i. (In-filter_parts (is_tiling R) A (sublists (tiles R)) i).1)
  where
    compared : (As : List (List Tile)) → ((A : List Tile) → IsTrue (is_tiling R A) → In A As) → ((A : List Tile) → In A As → IsTrue (is_tiling R A))
        → (B : List Tile) → IsTrue (is_tiling R B)
        → ((A : List Tile) → In A As → carried R bits T A ≡ carried R bits T B) ⊎ ((A : List Tile) × In A As × (¬ (carried R bits T A ≡ carried R bits T B)))
        → Gathers R bits T ⊎ (¬ Gathers R bits T)
    compared As every only B b (inl agree) = inl (λ A C a c. agree A (every A a) ∙ sym (agree C (every C c)))
    compared As every only B b (inr (A, i, differ)) = inr (λ gathers. differ (gathers A B (only A i) b))

    go : (As : List (List Tile)) → ((A : List Tile) → IsTrue (is_tiling R A) → In A As) → ((A : List Tile) → In A As → IsTrue (is_tiling R A)) → Gathers R bits T ⊎ (¬ Gathers R bits T)
    go [] every only = inl (λ A B a b. absurd (every A a))
    go (B ∷ As) every only =
        compared (B ∷ As) every only B (only B (inl refl))
        (all-or-some (λ A. carried R bits T A ≡ carried R bits T B) (λ A. tilings-same (carried R bits T A) (carried R bits T B)) (B ∷ As))
