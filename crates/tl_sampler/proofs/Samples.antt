-- The chain of the heights and the tilings themselves: a start gathers the one exactly where it gathers the others, and the state
-- to which the lawful ones are carried has the heights of the sample.
use Rattle.std.proofs.Common.{◌≡◌, ℕ, zero, suc, ◌^◌, Bool, List, [], ◌∷◌, length, refl, sym, ◌∙◌, ap, subst, ℤ}
use Rattle.std.specs.Prelude.{fold, IsTrue}
use Rattle.tl_definitions.specs.declared.Tile.{Tile}
use Rattle.tl_definitions.specs.Lattice.{classes}
use Rattle.tl_definitions.specs.Region.{Region, inner_corners}
use Rattle.tl_definitions.specs.Accepted.{Accepted}
use Rattle.tl_definitions.specs.Tiling.{is_tiling}
use Rattle.tl_definitions.specs.Heights.{AreHeights, AreLawful}
use Rattle.tl_definitions.specs.Sweep.{carried, sweep, sweep_class, Gathers, IsLate}
use Rattle.tl_lists.specs.Lists.{upto}
use Rattle.tl_lists.specs.Powers.{IsLeastPower}
use Rattle.tl_closing.proofs.Stated.{has-heights, has-tiling, heights-lawful}
use Rattle.tl_steps.proofs.Stated.{HasHeights, class-heights}
use Rattle.tl_bits.specs.Bits.{bit_at, bits_of, words_for}
use Rattle.tl_bits.specs.Sources.{numbered_word, Numbering}
use Rattle.tl_chain.specs.Chain.{AllCarriedTo, ChainGathers, IsChainLate, IsChainStart}
use Rattle.tl_height.specs.HeightFunction.{HeightFunction}
use Rattle.tl_coupling.specs.Carried.{carried_numbers, class_swept, swept, tilings}
use Rattle.tl_coupling.specs.SweptNumbers.{class_swept-swept}
use Rattle.tl_coupling.specs.Laws.{same_function}
use Rattle.tl_packed.specs.PackedTiling.{PackedTiling}
use Rattle.tl_packed_chain.specs.PackedTilings.{packed_tilings}
use Rattle.tl_packed_chain.specs.Laws.{same_tiling}
use Rattle.tl_sampler.specs.Drawn.{AreHeightsOfSample}

module _ (R : Region) (accepted : Accepted R) where
  -- ---- sweeps of heights are sweeps of tiles

  class-has : (bits : ℕ → Bool) (k : ℕ) (A : List Tile) (a : List ℤ) → HasHeights R A a → HasHeights R (sweep_class R bits k A) (class_swept R bits k a)
  class-has bits k A a has =
      class-heights R A a (class_swept R bits k a) bits k accepted has (class_swept-swept R bits k a accepted.placed has.1.heights)

  classes-have : (bits : ℕ → Bool) (ks : List ℕ) (A : List Tile) (a : List ℤ) → HasHeights R A a
      → HasHeights R (fold (λ B k. sweep_class R bits k B) A ks) (fold (λ h k. class_swept R bits k h) a ks)
  classes-have bits [] A a has = has
  classes-have bits (k ∷ ks) A a has = classes-have bits ks (sweep_class R bits k A) (class_swept R bits k a) (class-has bits k A a has)

  carried-has : (bits : ℕ → ℕ → Bool) (T : ℕ) (A : List Tile) (a : List ℤ) → HasHeights R A a → HasHeights R (carried R bits T A) (carried_numbers R bits T a)
  carried-has bits zero A a has = has
  carried-has bits (suc t) A a has =
      carried-has bits t (sweep R (bits (suc t)) A) (swept R (bits (suc t)) a) (classes-have (bits (suc t)) (upto (classes R.kind)) A a has)

  -- ---- one tiling has one list of heights, and one such list is that of one tiling

  of_tiling : (A : List Tile) → IsTrue (is_tiling R A) → (a : List ℤ) × HasHeights R A a
  of_tiling A tiling = let (a, heights, only) = has-heights R A accepted tiling in (a, (tiling, heights))

  of_heights : (a : List ℤ) → AreLawful R a → (A : List Tile) × HasHeights R A a
  of_heights a lawful = let (A, tiling, heights, only) = has-tiling R a accepted lawful in (A, (tiling, heights))

  has-lawful : (A : List Tile) (a : List ℤ) → HasHeights R A a → AreLawful R a
  has-lawful A a has = heights-lawful R A a accepted has.0 has.1

  one-tiling : (A B : List Tile) (a : List ℤ) → HasHeights R A a → HasHeights R B a → A ≡ B
  one-tiling A B a p q = go (has-tiling R a accepted (has-lawful A a p))
    where
      go : (C : List Tile) × IsTrue (is_tiling R C) × AreHeights R C a × ((D : List Tile) → IsTrue (is_tiling R D) → AreHeights R D a → D ≡ C) → A ≡ B
      go (C, tiling, heights, only) = only A p.0 p.1 ∙ sym (only B q.0 q.1)

  one-heights : (A : List Tile) (a b : List ℤ) → HasHeights R A a → HasHeights R A b → a ≡ b
  one-heights A a b p q = go (has-heights R A accepted p.0)
    where
      go : (c : List ℤ) × AreHeights R A c × ((d : List ℤ) → AreHeights R A d → d ≡ c) → a ≡ b
      go (c, heights, only) = only a p.1 ∙ sym (only b q.1)

  -- ---- a start gathers all lawful heights exactly where it gathers all tilings

  numbers-gathered : (bits : ℕ → ℕ → Bool) (T : ℕ) → ((a b : List ℤ) → AreLawful R a → AreLawful R b → carried_numbers R bits T a ≡ carried_numbers R bits T b)
      → Gathers R bits T
  numbers-gathered bits T all A B p q = go (of_tiling A p) (of_tiling B q)
    where
      go : (a : List ℤ) × HasHeights R A a → (b : List ℤ) × HasHeights R B b → carried R bits T A ≡ carried R bits T B
      go (a, has_a) (b, has_b) =
          one-tiling (carried R bits T A) (carried R bits T B) (carried_numbers R bits T b)
          (subst (λ (n : List ℤ). HasHeights R (carried R bits T A) n) (all a b (has-lawful A a has_a) (has-lawful B b has_b)) (carried-has bits T A a has_a))
          (carried-has bits T B b has_b)

  tilings-gathered : (bits : ℕ → ℕ → Bool) (T : ℕ) → Gathers R bits T → (a b : List ℤ) → AreLawful R a → AreLawful R b
      → carried_numbers R bits T a ≡ carried_numbers R bits T b
  tilings-gathered bits T all a b p q = go (of_heights a p) (of_heights b q)
    where
      go : (A : List Tile) × HasHeights R A a → (B : List Tile) × HasHeights R B b → carried_numbers R bits T a ≡ carried_numbers R bits T b
      go (A, has_a) (B, has_b) =
          one-heights (carried R bits T B) (carried_numbers R bits T a) (carried_numbers R bits T b)
          (subst (λ (C : List Tile). HasHeights R C (carried_numbers R bits T a)) (all A B has_a.0 has_b.0) (carried-has bits T A a has_a))
          (carried-has bits T B b has_b)

-- ---- the same of the least power of two

other-least : (P Q : ℕ → Type 0) (bound T : ℕ) → ((n : ℕ) → P n → Q n) → ((n : ℕ) → Q n → P n) → IsLeastPower P bound T → IsLeastPower Q bound T
other-least P Q bound T to from least = record {
  exponent = least.exponent;
  power = least.power;
  within = least.within;
  holds = to T least.holds;
  least = λ k below q. least.least k below (from (2 ^ k) q);
}

module _ (low high : HeightFunction) (bits : ℕ → ℕ → Bool) (accepted : Accepted low.region) where
  chain-gathers : (T : ℕ) → ChainGathers (tilings low high bits) T → Gathers low.region bits T
  chain-gathers T all =
      numbers-gathered low.region accepted bits T
      (λ a b p q. ap (λ (s : HeightFunction). s.numbers) (all (record { region = low.region; numbers = a }) (record { region = low.region; numbers = b }) (refl, p) (refl, q)))

  gathers-chain : (T : ℕ) → Gathers low.region bits T → ChainGathers (tilings low high bits) T
  gathers-chain T all s t p q =
      same_function ((tilings low high bits).carried s T) ((tilings low high bits).carried t T) (p.0 ∙ sym q.0)
      (tilings-gathered low.region accepted bits T all s.numbers t.numbers p.1 q.1)

  chain-late : (bound : ℕ) → IsChainLate (tilings low high bits) bound → IsLate low.region bits bound
  chain-late bound none k within all = none k within (gathers-chain (2 ^ k) all)

  chain-sample : (bound T : ℕ) (s : HeightFunction) → IsChainStart (tilings low high bits) bound T → AllCarriedTo (tilings low high bits) T s
      → (tilings low high bits).lawful s → AreHeightsOfSample low.region bits bound T s
  chain-sample bound T s start all lawful = go (of_heights low.region accepted s.numbers lawful.1)
    where
      go : (S : List Tile) × HasHeights low.region S s.numbers → AreHeightsOfSample low.region bits bound T s
      go (S, has) = record {
        tiles = S;
        sample = record {
          start = other-least (ChainGathers (tilings low high bits)) (Gathers low.region bits) bound T chain-gathers gathers-chain start;
          tiling = has.0;
          common = λ A tiling. common A (of_tiling low.region accepted A tiling);
        };
        heights = has.1;
      }
        where
          common : (A : List Tile) → (a : List ℤ) × HasHeights low.region A a → carried low.region bits T A ≡ S
          common A (a, has_a) =
              let state : HeightFunction = record { region = low.region; numbers = a } in
              one-tiling low.region accepted (carried low.region bits T A) S s.numbers
              (subst (λ (n : List ℤ). HasHeights low.region (carried low.region bits T A) n)
              (ap (λ (t : HeightFunction). t.numbers) (all state (refl, has-lawful low.region accepted A a has_a)))
              (carried-has low.region accepted bits T A a has_a)) has

-- ---- the chain of packed tilings gathers where that of their heights does

module _ (low high : PackedTiling) (bits : ℕ → ℕ → Bool) where
  heights-gather : (T : ℕ) → ChainGathers (packed_tilings low high bits) T → ChainGathers (tilings low.heights high.heights bits) T
  heights-gather T all s t p q =
      ap (λ (packed : PackedTiling). packed.heights)
      (all (record { layout = low.layout; heights = s }) (record { layout = low.layout; heights = t }) (refl, p) (refl, q))

  packed-gather : (T : ℕ) → ChainGathers (tilings low.heights high.heights bits) T → ChainGathers (packed_tilings low high bits) T
  packed-gather T all s t p q =
      same_tiling ((packed_tilings low high bits).carried s T) ((packed_tilings low high bits).carried t T) (p.0 ∙ sym q.0) (all s.heights t.heights p.1 q.1)

  heights-late : (bound : ℕ) → IsChainLate (packed_tilings low high bits) bound → IsChainLate (tilings low.heights high.heights bits) bound
  heights-late bound none k within all = none k within (packed-gather (2 ^ k) all)

  heights-start : (bound T : ℕ) → IsChainStart (packed_tilings low high bits) bound T → IsChainStart (tilings low.heights high.heights bits) bound T
  heights-start bound T start =
      other-least (ChainGathers (packed_tilings low high bits)) (ChainGathers (tilings low.heights high.heights bits)) bound T heights-gather packed-gather start

  heights-carried : (T : ℕ) (s : PackedTiling) → AllCarriedTo (packed_tilings low high bits) T s → AllCarriedTo (tilings low.heights high.heights bits) T s.heights
  heights-carried T s all t lawful = ap (λ (packed : PackedTiling). packed.heights) (all (record { layout = low.layout; heights = t }) (refl, lawful))

-- What a sampler cites, whose chain is of this region, and whose words are numbered.
module _ (low high : PackedTiling) (R : Region) (bits : Numbering) (seed number : ℕ) (same : low.heights.region ≡ R) (accepted : Accepted R)
    (numbered : bits ≡ record { seed = seed; sample = number; words = words_for (length (inner_corners R)) }) where
  pub drawn-late : (bound : ℕ) → IsChainLate (packed_tilings low high (bit_at (numbered_word bits))) bound → IsLate R (bits_of R seed number) bound
  drawn-late bound late =
      subst (λ (b : Numbering). IsLate R (bit_at (numbered_word b)) bound) numbered
      (subst (λ (Q : Region). IsLate Q (bit_at (numbered_word bits)) bound) same
      (chain-late low.heights high.heights (bit_at (numbered_word bits)) (subst Accepted (sym same) accepted) bound (heights-late low high (bit_at (numbered_word bits)) bound late)))

  pub drawn-sample : (bound T : ℕ) (s : PackedTiling) → IsChainStart (packed_tilings low high (bit_at (numbered_word bits))) bound T
      → AllCarriedTo (packed_tilings low high (bit_at (numbered_word bits))) T s → (packed_tilings low high (bit_at (numbered_word bits))).lawful s
      → AreHeightsOfSample R (bits_of R seed number) bound T s.heights
  drawn-sample bound T s start all lawful =
      subst (λ (b : Numbering). AreHeightsOfSample R (bit_at (numbered_word b)) bound T s.heights) numbered
      (subst (λ (Q : Region). AreHeightsOfSample Q (bit_at (numbered_word bits)) bound T s.heights) same
      (chain-sample low.heights high.heights (bit_at (numbered_word bits)) (subst Accepted (sym same) accepted) bound T s.heights
      (heights-start low high (bit_at (numbered_word bits)) bound T start) (heights-carried low high (bit_at (numbered_word bits)) T s all) lawful.1))
