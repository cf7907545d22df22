-- The CRC word of annex B: a shift register of n stages b0 .. b(n-1), held as a number in which the stage b(i) has the weight 2^i;
-- g has the coefficients of the polynomial below x^n, so that the CRC-8 of the standard has g = 2F and its CRC-12 g = 80F.
-- Assumes nothing.
use Rattle.std.specs.Prelude.{ℕ, ◌+◌, ◌-◌, ◌*◌, ◌/◌, ◌%◌, ◌^◌, List, [], ◌∷◌}
use Rattle.std.specs.Int.Bits.{bit_xor}
use Rattle.ground.specs.Table.{tab}
use Rattle.bits.specs.Places.{bit_at}

-- one clock: the register moves one stage towards b(n-1), whose weight is top; where the bit that leaves differs from the data
-- bit, the tapped stages are inverted
unfoldable pub clock : ℕ → ℕ → ℕ → ℕ → ℕ
clock top g r b = bit_xor (r * 2 % (top * 2)) ((r / top + b) % 2 * g)

-- the register after all bits, from r on
unfoldable pub clocks : ℕ → ℕ → ℕ → List ℕ → ℕ
clocks top g r [] = r
clocks top g r (b ∷ l) = clocks top g (clock top g r b) l

-- all ones at first; inverted at the end
unfoldable pub crc_of : ℕ → ℕ → List ℕ → ℕ
crc_of n g l = 2 ^ n - 1 - clocks (2 ^ (n - 1)) g (2 ^ n - 1) l

-- x^8 + x^5 + x^3 + x^2 + x + 1 (clause 4.3)
abbrev pub crc8 : List ℕ → ℕ
crc8 l = crc_of 8 0x2F l

-- x^12 + x^11 + x^3 + x^2 + x + 1 (clause 4.10.1.3)
abbrev pub crc12 : List ℕ → ℕ
crc12 l = crc_of 12 0x80F l

-- the same over the n bits at a place of packed bytes
unfoldable pub crc8_of : List ℕ → ℕ → ℕ → ℕ
crc8_of w at n = crc8 (tab (bit_at w) at n)

unfoldable pub crc12_of : List ℕ → ℕ → ℕ → ℕ
crc12_of w at n = crc12 (tab (bit_at w) at n)
