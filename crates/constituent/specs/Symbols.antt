-- The symbols of a bit period and of a period of the tail, five to a group, X Y0 Y1 Y'0 Y'1 (clauses 4.4.2 and 4.4.3).
-- Assumes nothing.
use Rattle.std.specs.Prelude.{ℕ, List, [], ◌∷◌}
use Rattle.constituent.specs.Constituent.{y0, y1, feed}
use Rattle.constituent.specs.declared.State.{State}

-- the symbols of a bit period: of encoder 1 in the state s for the input u, and of encoder 2 in the state t for the input v
unfoldable pub data_symbols : ℕ → State → ℕ → State → List ℕ
data_symbols u s v t = u ∷ y0 u s ∷ y1 u s ∷ y0 v t ∷ y1 v t ∷ []

-- the symbols of a tail period, X Y0 Y1 of encoder 1, and X' Y'0 Y'1 of encoder 2
unfoldable pub tail_symbols1 : State → List ℕ
tail_symbols1 s = feed s ∷ y0 (feed s) s ∷ y1 (feed s) s ∷ 0 ∷ 0 ∷ []

unfoldable pub tail_symbols2 : State → List ℕ
tail_symbols2 s = feed s ∷ 0 ∷ 0 ∷ y0 (feed s) s ∷ y1 (feed s) s ∷ []
