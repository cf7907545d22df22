-- The tables as they are made, for contracts inside this crate; no public promise leads here.
-- Assumes nothing.
use Rattle.std.specs.Prelude.{ℕ, zero, suc, ◌-◌, ◌*◌, ◌/◌, ◌%◌, ◌^◌, ◌≤◌, ◌≡◌, List, [], ◌∷◌, ◌++◌, map, get_or}
use Rattle.std.specs.Int.Bits.{bit_xor}
use Rattle.ground.specs.Table.{tab}
use Rattle.patterns.specs.Sent.{total}
use Rattle.constituent.specs.Segment.{weight}
use Rattle.tables.specs.Plan.{half_at, look_at}
use Rattle.tables.specs.declared.weights.Half.{Half}

-- what the places of the half h of twelve groups weigh
abbrev pub weights_of : List ℕ → ℕ → List ℕ
weights_of rows h = tab (weight (half_at rows h) 36) 0 36

pub record HalfOf (rows : List ℕ) (h : ℕ) (r : Half) : Type 0 where
  pub weights : r.weights ≡ weights_of rows h
  pub bits : r.bits ≡ total (half_at rows h) 36

-- no weight is above that of the first of 36 bits
pub record Light (w : List ℕ) : Type 0 where
  pub most : (j : ℕ) → get_or w j 0 ≤ 34359738368

-- what the bit t of 36 bits weighs
abbrev pub weighed : List ℕ → ℕ → ℕ → ℕ
weighed w x t = x / 2 ^ (35 - t) % 2 * get_or w t 0

-- the sums of n numbers: at the place x stands the sum of those whose bits x has, the first number's the lowest
unfoldable pub sums : (ℕ → ℕ) → ℕ → List ℕ
sums g zero = 0 ∷ []
sums g (suc n) = sums g n ++ map (λ x. bit_xor x (g n)) (sums g n)

-- the tables of the half h
unfoldable pub half_look : List ℕ → ℕ → List ℕ
half_look rows h = tab (look_at rows) (192 * h) 192
