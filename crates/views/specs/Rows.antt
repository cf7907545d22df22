-- Rows of fields by their places in packed bytes. A place past the end reads zero.
-- Assumes nothing.
use Rattle.std.specs.Prelude.{ℕ, ◌+◌, ◌*◌, List, [], ◌∷◌}
use Rattle.ground.specs.Table.{tab}
use Rattle.bits.specs.Places.{field_at}

-- the row at a place, from the bit o of it on; the table has the widths of the fields that are left
unfoldable pub row_from : List ℕ → List ℕ → ℕ → ℕ → List ℕ
row_from [] w at o = []
row_from (k ∷ t) w at o = field_at w (at + o) k ∷ row_from t w at (o + k)

unfoldable pub row_at : List ℕ → List ℕ → ℕ → List ℕ
row_at t w at = row_from t w at 0

-- n rows that stand so many bits apart, the first at a place
unfoldable pub rows_at : List ℕ → ℕ → ℕ → List ℕ → ℕ → List (List ℕ)
rows_at t apart n w at = tab (λ i. row_at t w (at + apart * i)) 0 n
