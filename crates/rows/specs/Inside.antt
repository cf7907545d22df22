-- What functions inside this crate ask and promise; no public promise leads here.
-- Assumes nothing.
use Rattle.std.specs.Prelude.{ℕ, ◌+◌, ◌*◌, ◌%◌, Bool, true, List, [], ◌∷◌, ltb, get_or}
use Rattle.ground.specs.Choice.{both}
use Rattle.order.specs.Order.{reversed}
use Rattle.order.specs.Rows.{column}

-- entries of table 10 are below 512
abbrev pub small : List ℕ → Bool
small [] = true
small (e ∷ es) = both (ltb e 512) (small es)

-- the pair at the place t of the row j, by the entry e of table 10
unfoldable pub pair_at : List ℕ → ℕ → ℕ → ℕ → ℕ → ℕ
pair_at d size j t e = get_or d (reversed (column t) * size + j * e % size) 0

-- the pair i of those from the place t on, by their entries
unfoldable pub six_of : List ℕ → ℕ → ℕ → ℕ → List ℕ → ℕ → ℕ
six_of d size j t es i = pair_at d size j (t + i) (get_or es i 0)
