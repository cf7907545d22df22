-- What encoder 2 reads of a block (clause 4.4.4), packed.
-- Assumes nothing.
use Rattle.std.specs.Prelude.{ℕ, List, ltb, eqb, get_or}
use Rattle.ground.specs.Choice.{choose}
use Rattle.bits.specs.Places.{bit_at, packed}
use Rattle.order.specs.Order.{order}

-- the block that a number of bits stands for
unfoldable pub block_for : ℕ → ℕ
block_for n = choose (eqb n 12282) 12282 762

-- the bit that encoder 2 reads at the bit period i of a block of n bits of the infoword w, and zeros behind the block
unfoldable pub interleaved_bit : List ℕ → ℕ → ℕ → ℕ
interleaved_bit w n i = choose (ltb i n) (bit_at w (get_or (order n) i 0)) 0

-- those bits, packed
unfoldable pub interleaved : ℕ → List ℕ → List ℕ
interleaved n w = packed (interleaved_bit w n) 1536
