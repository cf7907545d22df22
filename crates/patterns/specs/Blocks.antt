-- The blocks that there are, and the patterns that each is coded under (clauses 4.4.1, 4.4.2 and 4.4.8).
-- Assumes nothing.
use Rattle.std.specs.Prelude.{ℕ, ◌<◌, ◌≡◌, Bool, List, [], ◌∷◌, ◌⊎◌, eqb, ltb}
use Rattle.ground.specs.Choice.{choose, both, Fault, refuse}

-- the bits of the block that a length tells: 12,282 at the payload's length, 762 at the signalling word's, and 0 where there is no such block
unfoldable pub block_by : ℕ → ℕ → ℕ → ℕ
block_by payload signalling len = choose (eqb len payload) 12282 (choose (eqb len signalling) 762 0)

-- the block of 762 bits with a pattern other than 0
unfoldable pub unpaired : ℕ → ℕ → Bool
unpaired p n = both (eqb n 762) (ltb 0 p)

-- what is looked for first of a block and a pattern, in order: that there is the block, the pattern, the pattern for the short block
unfoldable pub block_faults : ℕ → ℕ → List Fault
block_faults p n =
    refuse 1 (eqb n 0) ∷
    refuse 3 (ltb 27 p) ∷
    refuse 4 (unpaired p n) ∷ []

-- the patterns that a block of n bits is coded under: each of the 28 for the payload's, pattern 0 for the signalling word's
abbrev pub Coded : ℕ → ℕ → Type 0
Coded p n = ((p < 28) × (n ≡ 12282)) ⊎ ((p ≡ 0) × (n ≡ 762))
