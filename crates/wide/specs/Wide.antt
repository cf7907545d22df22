-- The wide sink: up to 32 bits go in at once, and four bytes are stored at a time.
-- Assumes nothing.
use Rattle.std.specs.Prelude.{ℕ, ◌+◌, ◌-◌, ◌*◌, ◌/◌, ◌%◌, ◌^◌, List, ltb, length, set}
use Rattle.ground.specs.Outcome.{Outcome}
use Rattle.ground.specs.Choice.{choose}
use Rattle.wide.specs.declared.Wide.{Wide}

-- the low 32 bits of x in four bytes from a place on
unfoldable pub stored : List ℕ → ℕ → ℕ → List ℕ
stored out at x = set (set (set (set out at (x / 16777216 % 256)) (at + 1) (x / 65536 % 256)) (at + 2) (x / 256 % 256)) (at + 3) (x % 256)

-- the bits that wait, with the k bits of v behind them (of a v of more bits the low 32 are added all the same)
abbrev pub widened : Wide → ℕ → ℕ → ℕ
widened s v k = s.acc % 4294967296 * 2 ^ k + v % 4294967296

-- how many bits then wait
abbrev pub waiting : Wide → ℕ → ℕ
waiting s k = s.used % 32 + k

-- the k bits of v more, at most 32 of them: the first 32 bits that wait are stored; a buffer without room for them takes nothing
unfoldable pub wider : List ℕ → Wide → ℕ → ℕ → Outcome Wide (List ℕ)
wider out s v k =
    choose (ltb 32 k)
    (record { answer = s; memory = out })
    (choose (ltb (waiting s k) 32)
    (record { answer = record { acc = widened s v k; used = waiting s k; at = s.at }; memory = out })
    (choose (ltb (s.at + 3) (length out))
    (record { answer = record { acc = widened s v k; used = waiting s k - 32; at = s.at + 4 }; memory = stored out s.at (widened s v k / 2 ^ (waiting s k - 32)) })
    (record { answer = s; memory = out })))
