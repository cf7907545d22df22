-- What functions inside this crate promise; no public promise leads here.
-- Assumes nothing.
use Rattle.std.specs.Prelude.{ℕ, ◌/◌, ◌%◌, List, ltb, get_or}
use Rattle.ground.specs.Choice.{choose}
use Rattle.ground.specs.Table.{tab}
use Rattle.bits.specs.Places.{number}
use Rattle.constituent.specs.Constituent.{clocked}
use Rattle.constituent.specs.Symbols.{tail_symbols1, tail_symbols2}
use Rattle.constituent.specs.Six.{state_of}

-- the symbol at the place k of the fifteen of one encoder, by the register i, of encoder 2 from 8 on
unfoldable pub tail_of : ℕ → ℕ → ℕ
tail_of i k = get_or (choose (ltb i 8) (tail_symbols1 (clocked (state_of i) (k / 5))) (tail_symbols2 (clocked (state_of i) (k / 5)))) (k % 5) 0

unfoldable pub tails : List ℕ
tails = tab (λ i. number (tail_of i) 0 15) 0 16
