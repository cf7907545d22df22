-- Placement (document 01, "Placement"; clauses 4.4.2, 4.4.3 and 4.4.5 the other way round): each received value goes to the place of the encoder's output from
-- which its code bit was sent.
-- Assumes nothing.
use Rattle.std.specs.Prelude.{ℕ, not, List, [], ◌∷◌, ◌++◌, eqb, length, ℤ, pos, ◌+ℤ◌}
use Rattle.ground.specs.Outcome.{Outcome}
use Rattle.ground.specs.Choice.{choose, Fault, refuse, first_of, refusing}
use Rattle.ground.specs.Table.{tab}
use Rattle.patterns.specs.Blocks.{block_by, block_faults}
use Rattle.patterns.specs.Sent.{places, sent, code_length}

-- of the values, those whose code bits were sent from the place k; `from` has the place of each value in turn
unfoldable pub received_from : List ℕ → List ℤ → ℕ → List ℤ
received_from [] values k = []
received_from (f ∷ from) [] k = []
received_from (f ∷ from) (v ∷ values) k = choose (eqb f k) (v ∷ received_from from values k) (received_from from values k)

-- what a place holds: the sum of its copies; a place that is never sent has none, and holds 0
unfoldable pub held : List ℤ → ℤ
held [] = pos 0
held (v ∷ copies) = v +ℤ held copies

-- the lane of a block of n bits, of whose code bits under pattern p these values were received
unfoldable pub placed : ℕ → ℕ → List ℤ → List ℤ
placed p n values = tab (λ k. held (received_from (sent p n) values k)) 0 (places n)

-- the bits of the block of a lane: its length tells, 61,440 places for the payload's and 3,840 for the signalling word's
abbrev pub block_of : List ℤ → ℕ
block_of lane = block_by 61440 3840 (length lane)

-- what is looked for, in order: 1 3 4 of the block and the pattern, then 1, that there is a value for each code bit
unfoldable pub faults : ℕ → ℕ → ℕ → List Fault
faults p n values = block_faults p n ++ (refuse 1 (not (eqb values (code_length p n))) ∷ [])

-- placement's outcome: the number, 0 for accepted, and the lane, as it was where it refuses
unfoldable pub placing : ℕ → List ℤ → List ℤ → Outcome ℕ (List ℤ)
placing p values lane =
    let n : ℕ = block_of lane in
    refusing (first_of (faults p n (length values))) (placed p n values) lane
