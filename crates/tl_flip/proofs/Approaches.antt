-- Approaches made of none, of one and of more flips.
use Rattle.std.proofs.Common.{◌≡◌, ◌⊎◌, inl, inr, ℕ, ◌+◌, ◌-◌, ◌*◌, true, false, List, [], ◌∷◌, ◌++◌, length, refl, sym, ◌∙◌, ap, subst, arith, ℤ, pos, negsuc, ◌+ℤ◌, neg_ℤ, ◌<ℤ◌, ◌≤ℤ◌}
use Rattle.std.specs.Prelude.{IsTrue, MatchOption, Option, Some, None}
use Rattle.std.proofs.lemmas.Bool.{cases_Bool}
use Rattle.std.proofs.lemmas.Int.{ints}
use Rattle.std.proofs.lemmas.List.{length-append}
use Rattle.tl_definitions.specs.declared.Corner.{Corner}
use Rattle.tl_definitions.specs.declared.Kind.{Kind}
use Rattle.tl_definitions.specs.declared.Kind.TheVariants.{Square, Triangle}
use Rattle.tl_definitions.specs.declared.Tile.{Tile}
use Rattle.tl_definitions.specs.Lattice.{corner_eq, rise}
use Rattle.tl_definitions.specs.Region.{Region, is_corner_of, is_inner, is_step}
use Rattle.tl_definitions.specs.Heights.{height, AreLawful}
use Rattle.tl_definitions.specs.Flip.{can_flip, flip}
use Rattle.tl_definitions.proofs.Corners.{corner_eq-same}
use Rattle.tl_closing.specs.Changed.{IsChangedAt}
use Rattle.tl_closing.specs.Standing.{falls_from, falls_to}
use Rattle.tl_closing.proofs.Stated.{inner-of_region, lowered-lawful, raised-lawful}
use Rattle.tl_lawful.specs.HeightGap.{height_gap}
use Rattle.tl_lawful.proofs.Stated.{end-over, lowered-gap, raised-gap, rise-fits, source-under}
use Rattle.tl_flip.specs.Flips.{IsTilingOf}
use Rattle.tl_flip.specs.Approach.{AreTwo, IsApproach, IsShort, can_move, counted}
use Rattle.tl_flip.specs.declared.direction.Direction.{Direction}
use Rattle.tl_flip.specs.declared.direction.Direction.TheVariants.{Up, Down}
use Rattle.tl_flip.proofs.OneFlip.{can-lowered, can-raised, lowered-tiling, raised-tiling}
use Rattle.tl_flip.proofs.Paths.{path-more}

-- the corner that blocks one, as the search for it finds it
abbrev pub Blocks : Direction → Region → List ℤ → List ℤ → Corner → Corner → Type 0
Blocks way R here target v first =
    IsTrue (is_inner R first) × (counted way R here v ≡ counted way R here first +ℤ pos 1) × IsShort way R here target first

abbrev pub FoundTo : Region → List ℤ → Corner → Option Corner → Type 0
FoundTo R here v found =
    MatchOption found (IsTrue (falls_to R here v)) (λ u. IsTrue (is_step R u v) × (height R here v ≡ height R here u +ℤ pos 1))

abbrev pub FoundFrom : Region → List ℤ → Corner → Option Corner → Type 0
FoundFrom R here v found =
    MatchOption found (IsTrue (falls_from R here v)) (λ w. IsTrue (is_step R v w) × (height R here w ≡ height R here v +ℤ pos 1))

over : (y z : ℤ) → neg_ℤ y <ℤ neg_ℤ z → z <ℤ y
over y z l = omega (arith, ints, l)

module _ (R : Region) (here target : List ℤ) (v : Corner) (two : AreTwo R here target) where
  pub blocks-up : (found : Option Corner) → IsShort Up R here target v → FoundTo R here v found → MatchOption found (IsTrue (can_move Up R here v)) (Blocks Up R here target v)
  blocks-up None short falls = falls
  blocks-up (Some u) short (step, rises) =
      let also = source-under R here target u v two.accepted two.first two.second step rises short in
      (also.0, rises, also.1)

  pub blocks-down : (found : Option Corner) → IsShort Down R here target v → FoundFrom R here v found → MatchOption found (IsTrue (can_move Down R here v)) (Blocks Down R here target v)
  blocks-down None short falls = falls
  blocks-down (Some w) short (step, rises) =
      let also = end-over R here target v w two.accepted two.first two.second step rises (over (height R here v) (height R target v) short) in
      let past = also.1 in
      (also.0, omega (arith, ints, rises), omega (arith, ints, past))

pub approach-none : (way : Direction) (R : Region) (target old : List ℤ) (path : List Corner) → AreLawful R old → IsApproach way R target old old path path
approach-none way R target old path lawful = record {
  lawful = lawful;
  leads = λ A H leads tiled. (H, leads, tiled);
  gap = refl;
  onward = λ v of_region. omega (arith, ints);
  never_past = λ v of_region before. before;
}

pub approach-more : (way : Direction) (R : Region) (target old mid new : List ℤ) (before between after : List Corner)
    → IsApproach way R target old mid before between → IsApproach way R target mid new between after → IsApproach way R target old new before after
approach-more way R target old mid new before between after p q = record {
  lawful = q.lawful;
  leads = λ A H leads tiled. let (G, on, at) = p.leads A H leads tiled in q.leads A G on at;
  gap = q.gap ∙ p.gap;
  onward = λ v of_region. let l = p.onward v of_region in let m = q.onward v of_region in omega (arith, ints, l, m);
  never_past = λ v of_region l. q.never_past v of_region (p.never_past v of_region l);
}

-- one height that is moved by so much
module _ (way : Direction) (R : Region) (target old new : List ℤ) (v : Corner) (path : List Corner) where
  one : (more : ℤ) → AreLawful R new → IsChangedAt R old new v more
      → ((A : List Tile) → IsTilingOf R old A → (can_flip R A v ≡ true) × IsTilingOf R new (flip R A v))
      → height_gap new target + rise R.kind ≡ height_gap old target
      → counted way R old v ≤ℤ counted way R new v → counted way R new v ≤ℤ counted way R target v
      → IsApproach way R target old new path (path ++ v ∷ [])
  one more lawful changed flips gap onward short = record {
    lawful = lawful;
    leads = λ A H leads tiled. let (can, at) = flips H tiled in (flip R H v, path-more R A H path v leads can, at);
    gap = sums R.kind (height_gap old target) (height_gap new target) (length path) (length (path ++ v ∷ [])) gap (length-append path (v ∷ []));
    onward = λ w of_region. at w (λ y z. y ≤ℤ z) of_region onward (omega (arith, ints));
    never_past = λ w of_region before. past w of_region before (cases_Bool (corner_eq w v));
  }
    where
      sums : (k : Kind) (g g' n m : ℕ) → g' + rise k ≡ g → m ≡ n + 1 → g' + rise k * m ≡ g + rise k * n
      sums Square g g' n m e f = omega (arith, e, f)
      sums Triangle g g' n m e f = omega (arith, e, f)

      still : (w : Corner) → IsTrue (is_corner_of R w) → corner_eq w v ≡ false → counted way R new w ≡ counted way R old w
      still w of_region f = go way
        where
          go : (way : Direction) → counted way R new w ≡ counted way R old w
          go Up = changed.elsewhere w of_region f
          go Down = ap neg_ℤ (changed.elsewhere w of_region f)

      at : (w : Corner) (P : ℤ → ℤ → Type 0) → IsTrue (is_corner_of R w) → P (counted way R old v) (counted way R new v) → P (counted way R old w) (counted way R old w)
          → P (counted way R old w) (counted way R new w)
      at w P of_region here there = go (cases_Bool (corner_eq w v))
        where
          go : (corner_eq w v ≡ true) ⊎ (corner_eq w v ≡ false) → P (counted way R old w) (counted way R new w)
          go (inl f) = subst (λ (u : Corner). P (counted way R old u) (counted way R new u)) (sym (corner_eq-same w v f)) here
          go (inr f) = subst (λ (z : ℤ). P (counted way R old w) z) (sym (still w of_region f)) there

      past : (w : Corner) → IsTrue (is_corner_of R w) → counted way R old w ≤ℤ counted way R target w → (corner_eq w v ≡ true) ⊎ (corner_eq w v ≡ false)
          → counted way R new w ≤ℤ counted way R target w
      past w of_region before (inl f) = subst (λ (u : Corner). counted way R new u ≤ℤ counted way R target u) (sym (corner_eq-same w v f)) short
      past w of_region before (inr f) = subst (λ (z : ℤ). z ≤ℤ counted way R target w) (sym (still w of_region f)) before

module _ (R : Region) (target old new : List ℤ) (v : Corner) (path : List Corner) (two : AreTwo R old target) (inner : is_inner R v ≡ true) where
  of_region : is_corner_of R v ≡ true
  of_region = inner-of_region R v inner

  pub approach-raised : IsShort Up R old target v → falls_to R old v ≡ true → IsChangedAt R old new v (pos (rise R.kind)) → IsApproach Up R target old new path (path ++ v ∷ [])
  approach-raised short falls changed =
      let fits = (rise-fits R old target v two.accepted two.first two.second of_region).0 short in
      let here = changed.here in
      one Up R target old new v path (pos (rise R.kind)) (raised-lawful R old new v two.accepted two.first inner falls changed) changed
      (λ A tiled. (can-raised R old v A tiled inner falls, raised-tiling R old v new A two.accepted tiled inner falls changed))
      (raised-gap R old target new v two.accepted two.first two.second of_region changed short)
      (omega (arith, ints, here)) (omega (arith, ints, here, fits))

  pub approach-lowered : IsShort Down R old target v → falls_from R old v ≡ true → IsChangedAt R old new v (negsuc (rise R.kind - 1))
      → IsApproach Down R target old new path (path ++ v ∷ [])
  approach-lowered short falls changed =
      let past = over (height R old v) (height R target v) short in
      let fits = (rise-fits R old target v two.accepted two.first two.second of_region).1 past in
      let here = changed.here in
      one Down R target old new v path (negsuc (rise R.kind - 1)) (lowered-lawful R old new v two.accepted two.first inner falls changed) changed
      (λ A tiled. (can-lowered R old v A tiled inner falls, lowered-tiling R old v new A two.accepted tiled inner falls changed))
      (lowered-gap R old target new v two.accepted two.first two.second of_region changed past)
      (omega (arith, ints, here)) (omega (arith, ints, here, fits))

-- ---- as a call makes them

module _ (way : Direction) (R S : Region) (target old new others : List ℤ) (v : Corner) (path longer : List Corner) (two : AreTwo R old target) (inner : is_inner R v ≡ true) (short : IsShort way R old target v) (free : can_move way R old v ≡ true) (same : S ≡ R) (is : new ≡ others) (more : longer ≡ path ++ v ∷ []) where
  pub advanced-up : way ≡ Up → IsChangedAt S old others v (pos (rise S.kind)) → IsApproach way R target old new path longer
  advanced-up up changed =
      subst (λ (w : Direction). IsApproach w R target old new path longer) (sym up)
      (subst (λ (items : List Corner). IsApproach Up R target old new path items) (sym more)
      (approach-raised R target old new v path two inner (subst (λ (w : Direction). IsShort w R old target v) up short) (sym (ap (λ (w : Direction). can_move w R old v) up) ∙ free)
      (subst (λ (numbers : List ℤ). IsChangedAt R old numbers v (pos (rise R.kind))) (sym is) (subst (λ (T : Region). IsChangedAt T old others v (pos (rise T.kind))) same changed))))

  pub advanced-down : way ≡ Down → IsChangedAt S old others v (negsuc (rise S.kind - 1)) → IsApproach way R target old new path longer
  advanced-down down changed =
      subst (λ (w : Direction). IsApproach w R target old new path longer) (sym down)
      (subst (λ (items : List Corner). IsApproach Down R target old new path items) (sym more)
      (approach-lowered R target old new v path two inner (subst (λ (w : Direction). IsShort w R old target v) down short) (sym (ap (λ (w : Direction). can_move w R old v) down) ∙ free)
      (subst (λ (numbers : List ℤ). IsChangedAt R old numbers v (negsuc (rise R.kind - 1))) (sym is) (subst (λ (T : Region). IsChangedAt T old others v (negsuc (rise T.kind - 1))) same changed))))
