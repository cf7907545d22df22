-- What a call of the mixer gives. 3: a pattern above 27; 21: a length that is not the codeword's.
-- Assumes nothing.
use Rattle.std.specs.Prelude.{ℕ, ◌/◌, not, List, [], ◌∷◌, eqb, ltb, length}
use Rattle.ground.specs.Outcome.{Outcome}
use Rattle.ground.specs.Choice.{Fault, refuse, first_of, refusing}
use Rattle.patterns.specs.Sent.{code_length}
use Rattle.patterns.specs.Blocks.{block_by, block_faults}
use Rattle.mixer.specs.Mixer.{mixed}

-- the bytes of a payload codeword
abbrev pub codeword_bytes : ℕ → ℕ
codeword_bytes p = code_length p 12282 / 8

-- the block of the codeword that a length tells: 480 bytes are the signalling codeword's
abbrev pub block_of : ℕ → List ℕ → ℕ
block_of p c = block_by (codeword_bytes p) 480 (length c)

unfoldable pub mix_faults : ℕ → List ℕ → List ℕ → List Fault
mix_faults p c out =
    refuse 3 (ltb 27 p) ∷
    refuse 21 (not (eqb (first_of (block_faults p (block_of p c))) 0)) ∷
    refuse 21 (not (eqb (length out) (length c))) ∷ []

unfoldable pub mixing : ℕ → List ℕ → List ℕ → Outcome ℕ (List ℕ)
mixing p c out = refusing (first_of (mix_faults p c out)) (mixed p (block_of p c) c) out
