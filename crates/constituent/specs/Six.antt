-- Six bit periods at a time, for promises inside the library; no exported promise leads here.
-- Assumes nothing.
use Rattle.std.specs.Prelude.{ℕ, zero, suc, ◌-◌, ◌/◌, ◌%◌, ◌^◌, List, [], ◌∷◌, ltb, get_or}
use Rattle.ground.specs.Choice.{choose}
use Rattle.ground.specs.Table.{tab}
use Rattle.bits.specs.Places.{number}
use Rattle.constituent.specs.Constituent.{next}
use Rattle.constituent.specs.Symbols.{data_symbols}
use Rattle.constituent.specs.declared.State.{State}

-- the register that three bits of a number write
abbrev pub state_of : ℕ → State
state_of x = record { a1 = x / 4 % 2; a2 = x / 2 % 2; a3 = x % 2 }

-- the bit b of six bits
abbrev pub bit_of : ℕ → ℕ → ℕ
bit_of u b = u / 2 ^ (5 - b) % 2

-- the register after b of the six bits of u
unfoldable pub after : State → ℕ → ℕ → State
after s u zero = s
after s u (suc b) = next (bit_of u b) (after s u b)

-- the six bits of two registers
abbrev pub registers : State → State → List ℕ
registers s t = s.a1 ∷ s.a2 ∷ s.a3 ∷ t.a1 ∷ t.a2 ∷ t.a3 ∷ []

-- what the encoders give in six bit periods, from the registers s and t and for the six bits u and v: thirty symbols, and the registers then
unfoldable pub six : State → ℕ → State → ℕ → ℕ → ℕ
six s u t v k =
    choose (ltb k 30)
    (get_or (data_symbols (bit_of u (k / 5)) (after s u (k / 5)) (bit_of v (k / 5)) (after t v (k / 5))) (k % 5) 0)
    (get_or (registers (after s u 6) (after t v 6)) (k - 30) 0)

-- the same, of u, v and the registers in one number
unfoldable pub joint : ℕ → ℕ → ℕ
joint x = six (state_of (x / 8)) (x / 4096) (state_of x) (x / 64)

-- what each of the eighteen bits of that number gives by itself
unfoldable pub impulses : List ℕ
impulses = tab (λ b. number (joint (2 ^ b)) 0 36) 0 18
