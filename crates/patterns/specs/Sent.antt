-- What is sent: the lane's places in order, each as often as its pattern says (clauses 4.4.2, 4.4.3 and 4.4.5).
-- Assumes nothing.
use Rattle.std.specs.Prelude.{ℕ, zero, suc, ◌+◌, ◌*◌, ◌/◌, List, [], ◌++◌, get_or, replicate}
use Rattle.patterns.specs.Rates.{rate_of}
use Rattle.patterns.specs.Rows.{copies}

-- the places of a lane of n data groups and six tail groups
abbrev pub places : ℕ → ℕ
places n = 5 * (n + 6)

-- c 0 copies of x 0, then c 1 copies of x 1, and so on, for the places below n
unfoldable pub spread : {A : Type 0} → (ℕ → ℕ) → (ℕ → A) → ℕ → List A
spread c x zero = []
spread c x (suc n) = spread c x n ++ replicate (c n) (x n)

-- the sum of c 0, c 1, and so on, below n
unfoldable pub total : (ℕ → ℕ) → ℕ → ℕ
total c zero = 0
total c (suc n) = total c n + c n

-- the places from which the code bits are sent, in their order
unfoldable pub sent : ℕ → ℕ → List ℕ
sent p n = spread (copies p n) (λ k. k) (places n)

-- the place from which the code bit k is sent
unfoldable pub sent_from : ℕ → ℕ → ℕ → ℕ
sent_from p n k = get_or (sent p n) k 0

-- the length of a codeword in bits (clause 4.4.5): the block with its six tail periods, divided by the rate; 0 where there is no such pattern
unfoldable pub code_length : ℕ → ℕ → ℕ
code_length p n = (n + 6) * (rate_of p).den / (rate_of p).num
