-- The receiver's way back through the mixer: the bits of a mixed codeword in order again.
-- Assumes nothing.
use Rattle.std.specs.Prelude.{ℕ, ◌/◌, List, [], ◌∷◌, eqb}
use Rattle.ground.specs.Choice.{choose}
use Rattle.bits.specs.Places.{bit_at, packed}
use Rattle.patterns.specs.Rates.{over, rate_of}
use Rattle.patterns.specs.Sent.{code_length}
use Rattle.mixer.specs.Mixer.{Column, column, column_of, mixed_from}

-- the increments that undo those of table 12, and 61
unfoldable pub inverses : List Column
inverses =
    column (over 1 5) 61440 37063 ∷
    column (over 2 9) 55296 33629 ∷
    column (over 1 4) 49152 6005 ∷
    column (over 2 7) 43008 11789 ∷
    column (over 3 10) 40960 30769 ∷
    column (over 1 3) 36864 30089 ∷
    column (over 3 8) 32768 11899 ∷
    column (over 2 5) 30720 3863 ∷
    column (over 3 7) 28672 18199 ∷
    column (over 1 2) 24576 17845 ∷
    column (over 3 5) 20480 2749 ∷
    column (over 2 3) 18432 8405 ∷
    column (over 3 4) 16384 10019 ∷
    column (over 6 7) 14336 12433 ∷ []

unfoldable pub inverse : ℕ → ℕ → ℕ
inverse p n = choose (eqb n 762) 2581 (column_of inverses (rate_of p)).inc

-- a mixed codeword in order again
unfoldable pub unmixed : ℕ → ℕ → List ℕ → List ℕ
unmixed p n c = packed (λ i. bit_at c (mixed_from (inverse p n) (code_length p n) i)) (code_length p n / 8)
