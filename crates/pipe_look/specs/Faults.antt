-- What is looked for before a frame of a pipe is made, in numbers: the refusal of its profile and its greatest delay, its pattern and width, and the lengths that
-- are lent. A capacity unit is 256 bytes.
-- Assumes nothing.
use Rattle.std.specs.Prelude.{ℕ, ◌+◌, ◌*◌, ◌%◌, not, List, [], ◌∷◌, eqb, ltb}
use Rattle.ground.specs.Choice.{Fault, refuse}
use Rattle.patterns.specs.Rates.{units_of}

unfoldable pub frame_faults : ℕ → ℕ → ℕ → ℕ → ℕ → ℕ → ℕ → List Fault
frame_faults profile greatest pattern width codewords memory out =
    refuse profile (ltb 0 profile) ∷
    refuse 3 (ltb 27 pattern) ∷
    refuse 21 (not (eqb (width % units_of pattern) 0)) ∷
    refuse 21 (not (eqb codewords (width * 256))) ∷
    refuse 21 (not (eqb memory ((greatest + 1) * (width * 256)))) ∷
    refuse 21 (not (eqb out (width * 256))) ∷ []
