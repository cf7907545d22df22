-- What functions inside this crate promise; no public promise cites it.
-- Assumes nothing.
use Rattle.std.specs.Prelude.{ℕ, ◌+◌, ◌-◌, ◌*◌, ◌/◌, ◌%◌, ◌^◌, ltb}
use Rattle.ground.specs.Choice.{choose}

-- a group of five bits as five octal digits
unfoldable pub spaced : ℕ → ℕ
spaced x = x / 16 % 2 * 0o10000 + x / 8 % 2 * 0o1000 + x / 4 % 2 * 0o100 + x / 2 % 2 * 0o10 + x % 2

-- the entry j by a pattern's two rows: twelve groups of five bits, and six tail triples
unfoldable pub entry_from : ℕ → ℕ → ℕ → ℕ
entry_from row tail j =
    choose (ltb j 12) (spaced (row / 2 ^ (55 - 5 * j) % 32))
    (choose (ltb j 15) (tail / 2 ^ (9 * (17 - j)) % 0o1000 * 0o100) (tail / 2 ^ (9 * (17 - j)) % 0o1000 / 0o100 * 0o10000 + tail / 2 ^ (9 * (17 - j)) % 0o1000 % 0o100))
