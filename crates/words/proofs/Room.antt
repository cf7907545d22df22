-- How much room a text with numbers needs, where each number has at most so many digits.
-- Assumes nothing.
use Prim.Native.Nat.{ℕ, zero, suc, ◌+◌, ◌≤◌}
use mathlib.Core.Bool.{Bool, true, false}
use mathlib.Core.List.{List, [], ◌∷◌}
use native.Mathlib.Omega.{arith}
use lib.Dec.{eqb}
use lib.ListN.{length, get_or, drop, length-append}
use Rattle.ground.specs.Choice.{choose}
use Rattle.words.specs.Words.{decimal, spelled, taken, filled}
use Rattle.words.proofs.Decimal.{digits_most}

-- each number has at most so many digits; one that is missing has one
abbrev pub Within : List ℕ → List ℕ → Type 0
Within [] [] = Unit
Within [] (w ∷ ws) = ⊥
Within (n ∷ ns) [] = ⊥
Within (n ∷ ns) (w ∷ ws) = (length (decimal n) ≤ w) × Within ns ws

within_first : (ns ws : List ℕ) → Within ns ws → length (decimal (get_or ns 0 0)) ≤ get_or ws 0 1
within_first [] [] h = digits_most 0 0 (omega arith)
within_first [] (w ∷ ws) h = absurd h
within_first (n ∷ ns) [] h = absurd h
within_first (n ∷ ns) (w ∷ ws) h = h.0

within_rest : (k : ℕ) (ns ws : List ℕ) → Within ns ws → Within (drop k ns) (drop k ws)
within_rest zero ns ws h = h
within_rest (suc k) [] [] h = tt
within_rest (suc k) [] (w ∷ ws) h = absurd h
within_rest (suc k) (n ∷ ns) [] h = absurd h
within_rest (suc k) (n ∷ ns) (w ∷ ws) h = within_rest k ns ws h.1

abbrev pub room : List ℕ → List ℕ → ℕ
room [] ws = 0
room (c ∷ text) ws = choose (eqb c 35) (get_or ws 0 1) 1 + room text (drop (taken c) ws)

pub filled_room : (text ns ws : List ℕ) → Within ns ws → length (filled text ns) ≤ room text ws
unfolding filled
filled_room [] ns ws h = omega arith
filled_room (c ∷ text) ns ws h =
    omega (arith, length-append (spelled c (get_or ns 0 0)) (filled text (drop (taken c) ns)), go (eqb c 35), filled_room text (drop (taken c) ns) (drop (taken c) ws) (within_rest (taken c) ns ws h))
  where
    go : (b : Bool) → length (choose b (decimal (get_or ns 0 0)) (c ∷ [])) ≤ choose b (get_or ws 0 1) 1
    go true = within_first ns ws h
    go false = omega arith
