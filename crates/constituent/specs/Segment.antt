-- What is sent of a run of symbols, as a number, for promises inside the library; no exported promise leads here.
-- Assumes nothing.
use Rattle.std.specs.Prelude.{ℕ, zero, suc, ◌+◌, ◌-◌, ◌*◌, ◌/◌, ◌%◌, ◌^◌, List, get_or}
use Rattle.patterns.specs.Rows.{digit}
use Rattle.patterns.specs.Sent.{total}

-- how often the place k of groups of five octal digits is sent
unfoldable pub digit_at : List ℕ → ℕ → ℕ
digit_at rows k = digit (get_or rows (k / 5) 0) (k % 5)

-- the number of the bits y 0, y 1, .. below n, each as often as d says
unfoldable pub segment : (ℕ → ℕ) → (ℕ → ℕ) → ℕ → ℕ
segment d y zero = 0
segment d y (suc n) = segment d y n * 2 ^ d n + (2 ^ d n - 1) * y n

-- what the bit t weighs in that number, where it is sent once or not at all
unfoldable pub weight : (ℕ → ℕ) → ℕ → ℕ → ℕ
weight d n t = d t * 2 ^ (total d n - total d (t + 1))
