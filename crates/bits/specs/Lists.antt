-- Packed bits as lists (annex A): the first bit is the top bit of the first byte, and a number stands most significant bit first.
-- Assumes nothing.
use Rattle.std.specs.Prelude.{ℕ, zero, suc, ◌*◌, ◌+◌, ◌/◌, ◌%◌, ◌^◌, ◌<◌, List, [], ◌∷◌, ◌++◌, length, take, drop}

-- the n low bits of v, the highest first
unfoldable pub bits : ℕ → ℕ → List ℕ
bits zero v = []
bits (suc n) v = (v / 2 ^ n % 2) ∷ bits n v

-- the number that a list of bits writes, the highest first
unfoldable pub num : List ℕ → ℕ
num [] = 0
num (b ∷ l) = b * 2 ^ length l + num l

-- the bits of packed bytes
unfoldable pub unpack : List ℕ → List ℕ
unpack [] = []
unpack (b ∷ w) = bits 8 b ++ unpack w

-- n bytes with a list of bits packed into them
unfoldable pub pack : ℕ → List ℕ → List ℕ
pack zero l = []
pack (suc n) l = num (take 8 l) ∷ pack n (drop 8 l)

-- every entry is below m: a list of bits is Below 2, a list of bytes Below 256
abbrev pub Below : ℕ → List ℕ → Type 0
Below m [] = Unit
Below m (x ∷ l) = (x < m) × Below m l
