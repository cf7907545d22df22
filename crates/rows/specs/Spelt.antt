-- What the pairs of a row spell, for promises inside the library; no exported promise leads here.
-- Assumes nothing.
use Rattle.std.specs.Prelude.{ℕ, ◌+◌, ◌*◌, ◌/◌, ◌%◌, ◌^◌, List, eqb, ltb, length, get_or}
use Rattle.ground.specs.Choice.{choose, both}
use Rattle.bits.specs.Places.{number}
use Rattle.order.specs.Order.{parameter}
use Rattle.order.specs.Rows.{row_address, column}

-- the pair at the place t of the row j, for a block whose parameter is n
unfoldable pub row_pair : ℕ → List ℕ → ℕ → ℕ → ℕ
row_pair n d j t = get_or d (row_address n j (column t)) 0

-- four digits in base 64
abbrev pub digits : ℕ → ℕ → ℕ → ℕ → ℕ
digits a b c d = ((a * 64 + b) * 64 + c) * 64 + d

-- the low six bits of four numbers, and above 32 bits what is over them
abbrev pub twice : ℕ → ℕ → ℕ → ℕ → ℕ
twice a b c d = digits (a / 64) (b / 64) (c / 64) (d / 64) * 4294967296 + digits (a % 64) (b % 64) (c % 64) (d % 64)

-- what the pairs of the row j spell, six at a time
unfoldable pub both_of : ℕ → List ℕ → ℕ → ℕ
both_of n d j = twice (number (row_pair n d j) 0 6) (number (row_pair n d j) 6 6) (number (row_pair n d j) 12 6) (number (row_pair n d j) 18 6)

-- the same for a block of N bits; 0 from the row 512 on, and of another number of pairs than the block has
unfoldable pub rows_of : ℕ → List ℕ → ℕ → ℕ
rows_of N d j = choose (both (ltb j 512) (eqb (length d) (24 * 2 ^ parameter N))) (both_of (parameter N) d j) 0
