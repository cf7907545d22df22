-- What a copy and a fill leave in lent memory.
-- Assumes nothing.
use Rattle.std.specs.Prelude.{ℕ, ◌+◌, ◌-◌, ◌/◌, List, ◌++◌, leb, length, take, drop, replicate}
use Rattle.ground.specs.Choice.{choose}

-- the entries of x at a place of m, where they fit there
unfoldable pub copied : List ℕ → List ℕ → ℕ → List ℕ
copied x m at = choose (leb (at + length x) (length m)) (take at m ++ x ++ drop (at + length x) m) m

-- the run from the byte of one bit place of w to that of another, as much of it as there is
abbrev pub run_of : List ℕ → ℕ → ℕ → List ℕ
run_of w from until = take (until / 8 - from / 8) (drop (from / 8) w)

-- one byte from a place of m to its end
unfoldable pub filled_from : List ℕ → ℕ → ℕ → List ℕ
filled_from m at b = take at m ++ replicate (length m - at) b
