-- What a call for one frame of a pipe gives. 20: its profile; 3: a pattern above 27; 21: a width that is no multiple of the codeword's capacity units, or a buffer
-- of the wrong size.
-- Assumes nothing.
use Rattle.std.specs.Prelude.{ℕ, ◌*◌, ◌%◌, not, List, [], ◌∷◌, eqb, ltb, length}
use Rattle.ground.specs.Outcome.{Outcome}
use Rattle.ground.specs.Choice.{Fault, refuse, first_of, refusing}
use Rattle.patterns.specs.Rates.{units_of}
use Rattle.description.specs.Fields.{punct_pat, pipe_width}
use Rattle.slots.specs.declared.Way.{Way}
use Rattle.slots.specs.Slots.{frame_bytes}
use Rattle.slots.specs.Ring.{depth, step}
use Rattle.profile.specs.Lent.{lent_fields, lent_sections, profile_fault}
use Rattle.pipe.specs.Frame.{way_of, mixed_frame}

-- what the frames of a pipe as it is lent are made by
abbrev pub lent_way : List ℕ → Way
lent_way l = way_of (lent_fields l) (lent_sections l)

abbrev pub lent_pattern : List ℕ → ℕ
lent_pattern l = punct_pat (lent_fields l)

unfoldable pub pipe_faults : List ℕ → List ℕ → List ℕ → List ℕ → List Fault
pipe_faults l codewords memory out =
    refuse 20 (profile_fault l) ∷
    refuse 3 (ltb 27 (lent_pattern l)) ∷
    refuse 21 (not (eqb (pipe_width (lent_fields l) % units_of (lent_pattern l)) 0)) ∷
    refuse 21 (not (eqb (length codewords) (frame_bytes (lent_way l)))) ∷
    refuse 21 (not (eqb (length memory) (depth (lent_way l) * frame_bytes (lent_way l)))) ∷
    refuse 21 (not (eqb (length out) (frame_bytes (lent_way l)))) ∷ []

-- the memory, whose row of this frame has its mixed codewords, and the frame of the pipe
unfoldable pub piping : List ℕ → ℕ → List ℕ → List ℕ → List ℕ → Outcome ℕ (List ℕ × List ℕ)
piping l f codewords memory out =
    let o : Outcome (List ℕ) (List ℕ) = step (lent_way l) f (mixed_frame (lent_pattern l) (lent_way l).slots codewords) memory in
    refusing (first_of (pipe_faults l codewords memory out)) (o.memory, o.answer) (memory, out)
