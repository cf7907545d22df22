-- What is asked of the two preambles, as propositions. The theorems say that they hold of the functions' own promises
-- (proofs/Promised.antt here, and proofs/Preambles.antt of crate opl).
-- Assumes nothing.
use Rattle.std.specs.Prelude.{ℕ, ◌<◌, ◌≡◌, List, length}
use Rattle.bits.specs.Lists.{unpack}
use Rattle.bits.specs.Places.{bit_at}
use Rattle.bits.specs.Sums.{ones}

-- 32 bytes and 32 bytes that differ in all 256 bits
abbrev pub Opposite : List ℕ → List ℕ → Type 0
Opposite v w = (length v ≡ 32) × (length w ≡ 32) × ((i : ℕ) → i < 256 → bit_at v i ≡ bit_at w i → ⊥)

-- 32 bytes of which as many bits are ones as are zeros
abbrev pub Balanced : List ℕ → Type 0
Balanced w = (length w ≡ 32) × (ones (unpack w) ≡ 128)
