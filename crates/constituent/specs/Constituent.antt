-- The constituent encoder (clause 4.4.2, figure 5) and its tail (clause 4.4.3): a register of three bits. All sums are modulo 2.
-- Assumes nothing.
use Rattle.std.specs.Prelude.{ℕ, zero, suc, ◌+◌, ◌%◌}
use Rattle.constituent.specs.declared.State.{State}

-- what enters the register for the input u
abbrev pub entering : ℕ → State → ℕ
entering u s = (u + s.a2 + s.a3) % 2

-- the symbols of the input u; X is u itself
unfoldable pub y0 : ℕ → State → ℕ
y0 u s = (entering u s + s.a1 + s.a3) % 2

unfoldable pub y1 : ℕ → State → ℕ
y1 u s = (entering u s + s.a1 + s.a2 + s.a3) % 2

-- the register after the input u
unfoldable pub next : ℕ → State → State
next u s = record { a1 = entering u s; a2 = s.a1; a3 = s.a2 }

-- the register after i inputs f 0, f 1, and so on; at first it is zero
unfoldable pub state : (ℕ → ℕ) → ℕ → State
state f zero = record { a1 = 0; a2 = 0; a3 = 0 }
state f (suc i) = next (f i) (state f i)

-- the input of a clock of the tail
unfoldable pub feed : State → ℕ
feed s = (s.a2 + s.a3) % 2

-- the register after t clocks of the tail
unfoldable pub clocked : State → ℕ → State
clocked s zero = s
clocked s (suc t) = next (feed (clocked s t)) (clocked s t)
