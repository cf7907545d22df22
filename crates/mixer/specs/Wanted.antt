-- What is wanted of the mixer: the propositions that are proved.
-- Assumes nothing.
use Rattle.std.specs.Prelude.{ℕ, ◌/◌, ◌<◌, ◌≡◌, List, length}
use Rattle.ground.specs.Moves.{MovesOnce}
use Rattle.bits.specs.Lists.{Below}
use Rattle.bits.specs.Places.{bit_at}
use Rattle.patterns.specs.Sent.{code_length}
use Rattle.patterns.specs.Blocks.{Coded}
use Rattle.mixer.specs.Mixer.{mixed_from, increment, mixed}
use Rattle.mixer.specs.Unmixer.{inverse, unmixed}

-- the mixer moves each bit of a codeword exactly once
abbrev pub MixedOnce : Type 0
MixedOnce = (p n : ℕ) → Coded p n → MovesOnce (code_length p n) (mixed_from (increment p n) (code_length p n)) (mixed_from (inverse p n) (code_length p n))

-- a mixed codeword in order again is the codeword
abbrev pub Unmixes : Type 0
Unmixes = (p n : ℕ) → Coded p n → (c : List ℕ) → Below 256 c → length c ≡ code_length p n / 8 → unmixed p n (mixed p n c) ≡ c

-- what a call that was accepted leaves: for the block whose codeword it was lent, each bit of the codeword at its place
abbrev pub Moved : ℕ → List ℕ → List ℕ → Type 0
Moved p c m =
    (n : ℕ) × Coded p n × (length c ≡ code_length p n / 8) × ((i : ℕ) → i < code_length p n → bit_at m (mixed_from (inverse p n) (code_length p n) i) ≡ bit_at c i)
