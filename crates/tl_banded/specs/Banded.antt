-- The chain of packed tilings by the bits of a sample.
use Rattle.std.specs.Prelude.{◌≡◌, ℕ, Bool, All, List}
use Rattle.std.proofs.Math.Bool.{Bool-set}
use Rattle.std.proofs.Math.Nat.{ℕ_set}
use Rattle.std.proofs.Math.Bridge.{le_prop}
use Rattle.tl_definitions.specs.Region.{Region}
use Rattle.tl_bits.specs.Bits.{bit_at}
use Rattle.tl_bits.specs.Sources.{Numbering, numbered_word}
use Rattle.tl_layout.specs.declared.layout.Layout.{Layout}
use Rattle.tl_layout.specs.declared.piece.Pieces.{Pieces}
use Rattle.tl_chain.specs.Chain.{ChainMeaning}
use Rattle.tl_packed.specs.PackedTiling.{PackedTiling}
use Rattle.tl_packed_chain.specs.PackedTilings.{packed_tilings}
use Rattle.tl_crew.specs.declared.share.Share.{Share}
use Rattle.tl_crew.specs.Bands.{AreSharesIn}
use Rattle.tl_crew.specs.Hands.{AreCoinsOf}

-- the chain of packed tilings with these ends, by the bits of a sample
abbrev pub sampled : PackedTiling → PackedTiling → Numbering → ChainMeaning PackedTiling
sampled low high numbering = packed_tilings low high (bit_at (numbered_word numbering))

-- ---- facts that have one proof at most

pub AreShares-prop : {T : Type 0} (share_of : T → Share) (l : Layout) (hands : List T) → IsProp (AreSharesIn share_of l hands)
AreShares-prop share_of l hands = hlevel (ℕ_set, le_prop)

pub AreCoins-prop : {T : Type 0} (R : Region) (l : Layout) (bits : ℕ → ℕ → Bool) (pieces_of : T → Pieces) (words_of : T → ℕ) (word_at_of : T → ℕ → ℕ → ℕ) (hands : List T)
    → IsProp (All (λ t. AreCoinsOf R l bits (pieces_of t) (words_of t) (word_at_of t)) hands)
AreCoins-prop R l bits pieces_of words_of word_at_of hands = hlevel (ℕ_set, Bool-set)
