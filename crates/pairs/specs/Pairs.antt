-- The bits of a block in pairs, for promises inside the library; no exported promise leads here.
-- Assumes nothing.
use Rattle.std.specs.Prelude.{ℕ, ◌+◌, ◌*◌, ◌/◌, ◌%◌, ◌<◌, ◌≡◌, List, eqb, length, get_or}
use Rattle.ground.specs.Choice.{choose}
use Rattle.ground.specs.Table.{tab}
use Rattle.bits.specs.Places.{bit_at}

-- two bits of a word in a byte
abbrev pub couple : List ℕ → ℕ → ℕ → ℕ
couple w a b = bit_at w a + 64 * bit_at w b

-- the place half a segment on, round the segment
abbrev pub fellow : ℕ → ℕ → ℕ
fellow size a = a / size * size + (a % size + size / 2) % size

-- the bits of a word's 24 segments, each with the bit half a segment on
unfoldable pub pairs_of : List ℕ → ℕ → List ℕ
pairs_of w size = tab (λ a. couple w a (fellow size a)) 0 (24 * size)

-- what stands in the lent bytes, whose length tells the block: segments of 512 bits of a payload word, of 32 of a signalling word; bytes of another length are as they were
unfoldable pub unpacked : List ℕ → List ℕ → List ℕ
unpacked w d = choose (eqb (length d) 12288) (pairs_of w 512) (choose (eqb (length d) 768) (pairs_of w 32) d)

-- 24 segments of pairs of bits: the second bit of a pair is the first of the pair that stands half a segment further on, round the segment
pub record Paired (size : ℕ) (d : List ℕ) : Type 0 where
  pub len : length d ≡ 24 * size
  pub first : (k : ℕ) → get_or d k 0 % 64 < 2
  pub second : (k : ℕ) → get_or d k 0 / 64 < 2
  pub fellow : (s x : ℕ) → s < 24 → x < size → get_or d (s * size + x) 0 / 64 ≡ get_or d (s * size + (x + size / 2) % size) 0 % 64
