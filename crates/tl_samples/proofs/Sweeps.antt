-- Sweeps keep tilings.
use Rattle.std.proofs.Common.{ℕ, zero, suc, Bool, List, [], ◌∷◌}
use Rattle.std.specs.Prelude.{fold, IsTrue}
use Rattle.tl_definitions.specs.declared.Tile.{Tile}
use Rattle.tl_definitions.specs.Lattice.{classes}
use Rattle.tl_definitions.specs.Region.{Region}
use Rattle.tl_lists.specs.Lists.{upto}
use Rattle.tl_definitions.specs.Accepted.{IsPlaced}
use Rattle.tl_definitions.specs.Tiling.{is_tiling}
use Rattle.tl_definitions.specs.Sweep.{step, class_corners, sweep_class, sweep, carried}
use Rattle.tl_samples.proofs.Put.{step-tiling}

-- a fold keeps what each of its steps keeps
fold_keeps : {A B : Type 0} (P : B → Type 0) (f : B → A → B) → ((b : B) (x : A) → P b → P (f b x)) → (b : B) (xs : List A) → P b → P (fold f b xs)
fold_keeps P f keeps b [] p = p
fold_keeps P f keeps b (x ∷ xs) p = fold_keeps P f keeps (f b x) xs (keeps b x p)

module _ (R : Region) (placed : IsPlaced R) where
  pub sweep_class-tiling : (bits : ℕ → Bool) (k : ℕ) (A : List Tile) → IsTrue (is_tiling R A) → IsTrue (is_tiling R (sweep_class R bits k A))
  sweep_class-tiling bits k A tiling =
      fold_keeps (λ B. IsTrue (is_tiling R B)) (λ B p. step R B p.1 (bits p.0)) (λ B p t. step-tiling R B p.1 placed t (bits p.0)) A (class_corners R k) tiling

  pub sweep-tiling : (bits : ℕ → Bool) (A : List Tile) → IsTrue (is_tiling R A) → IsTrue (is_tiling R (sweep R bits A))
  sweep-tiling bits A tiling =
      fold_keeps (λ B. IsTrue (is_tiling R B)) (λ B k. sweep_class R bits k B) (λ B k t. sweep_class-tiling bits k B t) A (upto (classes R.kind)) tiling

  pub carried-tiling : (bits : ℕ → ℕ → Bool) (T : ℕ) (A : List Tile) → IsTrue (is_tiling R A) → IsTrue (is_tiling R (carried R bits T A))
  carried-tiling bits zero A tiling = tiling
  carried-tiling bits (suc t) A tiling = carried-tiling bits t (sweep R (bits (suc t)) A) (sweep-tiling (bits (suc t)) A tiling)
