-- What a private function of this crate answers. No public promise cites it.
-- Assumes nothing.
use Rattle.std.specs.Prelude.{ℕ, not, List, [], ◌∷◌, eqb, ltb}
use Rattle.ground.specs.Choice.{Fault, refuse}

-- what is refused of a packet count and of the null packet's length
abbrev pub packet_faults : ℕ → ℕ → List Fault
packet_faults count null =
    refuse 17 (ltb 8 count) ∷
    refuse 1 (not (eqb null 188)) ∷ []
