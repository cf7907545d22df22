-- Sums of bits: of two lists place by place, of two lists of bytes bit by bit, and of the bits of one list.
-- Assumes nothing.
use Rattle.std.specs.Prelude.{ℕ, ◌+◌, ◌%◌, List, [], ◌∷◌}
use Rattle.std.specs.Int.Bits.{bit_xor}

-- the sum of two lists of bits, modulo 2 at each place
unfoldable pub added : List ℕ → List ℕ → List ℕ
added [] m = []
added (a ∷ l) [] = []
added (a ∷ l) (b ∷ m) = ((a + b) % 2) ∷ added l m

-- the bitwise sum of two lists of bytes of one length: at each place the exclusive or
unfoldable pub summed : List ℕ → List ℕ → List ℕ
summed [] w = []
summed (a ∷ v) [] = []
summed (a ∷ v) (b ∷ w) = bit_xor a b ∷ summed v w

-- how many of a list of bits are ones
unfoldable pub ones : List ℕ → ℕ
ones [] = 0
ones (b ∷ l) = b + ones l
