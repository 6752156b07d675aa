-- The chain of the packed tilings of a region: what it means is what the chain of their heights means.
use Rattle.std.specs.Prelude.{◌≡◌, ℕ, Bool}
use Rattle.tl_chain.specs.Chain.{ChainMeaning}
use Rattle.tl_packed.specs.PackedTiling.{PackedTiling}
use Rattle.tl_coupling.specs.Carried.{tilings}

-- The states are tilings in strings of one layout.
abbrev pub packed_tilings : PackedTiling → PackedTiling → (ℕ → ℕ → Bool) → ChainMeaning PackedTiling
packed_tilings low high bits = record {
  belongs = λ s. (s.layout ≡ low.layout) × (tilings low.heights high.heights bits).belongs s.heights;
  lawful = λ s. (s.layout ≡ low.layout) × (tilings low.heights high.heights bits).lawful s.heights;
  below = λ s t. (tilings low.heights high.heights bits).below s.heights t.heights;
  low = low;
  high = high;
  carried = λ s from. record { layout = s.layout; heights = (tilings low.heights high.heights bits).carried s.heights from };
}
