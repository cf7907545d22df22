-- What functions inside this crate ask and promise; no public promise leads here.
-- Assumes nothing.
use Rattle.std.specs.Prelude.{ℕ, ◌-◌, ◌/◌, ◌%◌, ◌^◌, ◌<◌, ◌≡◌, List, ltb, length, get_or}
use Rattle.ground.specs.Choice.{choose}
use Rattle.bits.specs.Places.{bit_at}
use Rattle.order.specs.Order.{order}

-- the bits of 0, 1, .. to 15, four of each, one number after the other
unfoldable pub four_bit : ℕ → ℕ
four_bit i = i / 4 / 2 ^ (3 - i % 4) % 2

-- the bits of a word's first 96 bytes, a byte to a bit
pub record Singles (w d : List ℕ) : Type 0 where
  pub len : length d ≡ 768
  pub bits : (a : ℕ) → a < 768 → get_or d a 0 ≡ bit_at w a

-- the bit that is read at the period p, and zeros behind the block
unfoldable pub read_bit : List ℕ → ℕ → ℕ
read_bit d p = choose (ltb p 762) (get_or d (get_or (order 762) p 0) 0) 0
