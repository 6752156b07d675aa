-- What a stream of words keeps.
use Rattle.std.specs.Prelude.{◌≡◌, ◌+◌}
use Rattle.tl_bits.specs.declared.stream.WordStream.TheInside.{Inside}
use Rattle.tl_bits.specs.Bits.{key}
use Rattle.tl_bits.specs.Sources.{seed_of_key}
use Rattle.tl_bits.specs.Ring.{HoldsWords, IsHeld}

-- the key is a seed's, and the ring has its words
pub record IsStream (s : Inside) : Type 0 where
  pub key_is : s.generator.key ≡ key (seed_of_key s.generator.key)
  pub shape : IsHeld s.held
  pub words_are : HoldsWords s.generator.key s.generator.stream s.ring s.held.first (s.held.first + s.held.count)
