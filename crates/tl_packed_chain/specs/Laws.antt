-- The chain of the packed tilings of a region is lawful, as that of their heights is.
use Rattle.std.proofs.Common.{◌≡◌, ℕ, Bool, refl, sym, ◌∙◌}
use Rattle.tl_definitions.specs.Accepted.{Accepted}
use Rattle.tl_lawful.specs.Order.{AreGreatest, AreLeast}
use Rattle.tl_layout.specs.declared.layout.Layout.{Layout}
use Rattle.tl_chain.specs.Chain.{IsLawfulChain}
use Rattle.tl_height.specs.HeightFunction.{HeightFunction}
use Rattle.tl_packed.specs.PackedTiling.{PackedTiling}
use Rattle.tl_coupling.specs.Carried.{tilings}
use Rattle.tl_coupling.specs.Laws.{IsLawfulChain-tilings}
use Rattle.tl_packed_chain.specs.PackedTilings.{packed_tilings}

pub same_tiling : (s t : PackedTiling) → s.layout ≡ t.layout → s.heights ≡ t.heights → s ≡ t
same_tiling s t p q = λ i. record { layout = p i; heights = q i }

pub lawful-packed : (low high : PackedTiling) (bits : ℕ → ℕ → Bool) → high.layout ≡ low.layout → IsLawfulChain (tilings low.heights high.heights bits)
    → IsLawfulChain (packed_tilings low high bits)
lawful-packed low high bits one_layout laws = record {
  stays = λ from s lower upper h. (h.0, laws.stays from s.heights lower upper h.1);
  monotone = λ from s t lower upper h k below. laws.monotone from s.heights t.heights lower upper h.1 k.1 below;
  antisymmetric = λ s t h k below above. same_tiling s t (h.0 ∙ sym k.0) (laws.antisymmetric s.heights t.heights h.1 k.1 below above);
  low_lawful = (refl, laws.low_lawful);
  high_lawful = (one_layout, laws.high_lawful);
  low_lowest = λ s h. laws.low_lowest s.heights h.1;
  high_highest = λ s h. laws.high_highest s.heights h.1;
}

pub IsLawfulChain-packed : (low high : PackedTiling) (bits : ℕ → ℕ → Bool) → high.layout ≡ low.layout → high.heights.region ≡ low.heights.region
    → AreLeast low.heights.region low.heights.numbers → AreGreatest low.heights.region high.heights.numbers → ∥ Accepted low.heights.region ∥₁
    → IsLawfulChain (packed_tilings low high bits)
IsLawfulChain-packed low high bits one_layout one_region bottom top accepted =
    lawful-packed low high bits one_layout (IsLawfulChain-tilings low.heights high.heights bits one_region bottom top accepted)
