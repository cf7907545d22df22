-- The order by rows, for promises inside the library and the laws; no exported promise leads here: the 32 counter values with the same top bits are a row.
-- Assumes nothing.
use Rattle.std.specs.Prelude.{ℕ, ◌+◌, ◌*◌, ◌/◌, ◌%◌, ◌^◌}
use Rattle.order.specs.Order.{entry, reversed}

-- the address of the column low of the row j, counted from 1
unfoldable pub row_address : ℕ → ℕ → ℕ → ℕ
row_address n j low = reversed low * 2 ^ n + j * entry n low % 2 ^ n

-- the column at the place t of a row
abbrev pub column : ℕ → ℕ
column t = t + t / 3
