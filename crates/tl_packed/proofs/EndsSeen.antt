-- Strings of a tiling, as contracts see them.
use Rattle.std.proofs.Common.{◌≡◌, List, ap, subst, ℤ}
use Rattle.tl_definitions.specs.Region.{Region}
use Rattle.tl_layout.specs.declared.layout.Layout.{Layout}
use Rattle.tl_packed.specs.declared.strings.Strings.{Strings}
use Rattle.tl_packed.specs.OneTiling.{IsPacked-prop}
use Rattle.tl_packed.specs.PackedTiling.{PackedTiling}
use Rattle.tl_packed.specs.Packs.{IsPacked, Packs}

abbrev packed : Region → Layout → List ℤ → PackedTiling
packed R l numbers = record { layout = l; heights = record { region = R; numbers = numbers } }

-- the strings hold what is seen
pub seen-packs : (R : Region) (l : Layout) (s : Strings) (packs : IsPacked R l s) (t : PackedTiling) → packed R l packs.0 ≡ t → Packs t.heights.region t.layout s t.heights.numbers
seen-packs R l s packs t e = subst (λ (u : PackedTiling). Packs u.heights.region u.layout s u.heights.numbers) e packs.1

-- and what they hold is seen
pub packs-seen : (R S : Region) (l m : Layout) (s : Strings) (packs : IsPacked R l s) (numbers : List ℤ) → R ≡ S → l ≡ m → Packs R l s numbers
    → packed R l packs.0 ≡ packed S m numbers
packs-seen R S l m s packs numbers e f holds = λ i. packed (e i) (f i) (same i)
  where
    same : packs.0 ≡ numbers
    same = ap (λ (p : IsPacked R l s). p.0) (IsPacked-prop R l s packs (numbers, holds))

-- the same of an equal region and layout
pub packs-moved : (R S : Region) (l m : Layout) (s : Strings) (numbers : List ℤ) → R ≡ S → l ≡ m → Packs R l s numbers → Packs S m s numbers
packs-moved R S l m s numbers e f packs = subst (λ (k : Layout). Packs S k s numbers) f (subst (λ (T : Region). Packs T l s numbers) e packs)
