-- The key that a seed's bytes give.
use Rattle.std.proofs.Common.{◌≡◌, ℕ, ◌+◌, ◌*◌, ◌/◌, ◌%◌, ◌^◌, ◌<◌, ◌++◌, w64, arith}
use Rattle.std.specs.Prelude.{replicate}
use Rattle.std.specs.Int.{to_le_bytes}
use Rattle.rand_core.specs.Steps.{u32_at}
use Rattle.rand_chacha.specs.ChaCha.{key_of}
use Rattle.tl_bits.specs.Bits.{key}
use Rattle.tl_bits.specs.Sources.{seed_of_key}

low_word : (n : ℕ) → n % 256 + n / 2 ^ 8 % 256 * 2 ^ 8 + n / 2 ^ 16 % 256 * 2 ^ 16 + n / 2 ^ 24 % 256 * 2 ^ 24 ≡ n % 2 ^ 32
low_word n = omega arith

high_word : (n : ℕ) → n < 2 ^ 64
    → n / 2 ^ 32 % 256 + n / 2 ^ 40 % 256 * 2 ^ 8 + n / 2 ^ 48 % 256 * 2 ^ 16 + n / 2 ^ 56 % 256 * 2 ^ 24 ≡ n / 2 ^ 32
high_word n fits = omega arith

-- a seed's eight bytes and 24 zero bytes
pub key_of-seed : (seed : ℕ) → seed < 2 ^ 64 → key_of (to_le_bytes w64 seed ++ replicate 24 0) ≡ key seed
unfolding u32_at
key_of-seed seed fits = cc (low_word seed, high_word seed fits)

pub seed_of_key-key : (seed : ℕ) → seed_of_key (key seed) ≡ seed
seed_of_key-key seed = omega arith
