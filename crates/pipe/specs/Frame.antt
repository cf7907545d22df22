-- A frame of a pipe: what it is made by, and its codewords mixed (clauses 4.5 and 4.6).
-- Assumes nothing.
use Rattle.std.specs.Prelude.{ℕ, ◌*◌, ◌/◌, List}
use Rattle.patterns.specs.Rates.{units_of}
use Rattle.description.specs.Fields.{punct_pat, pipe_width, regrouping_flag}
use Rattle.slots.specs.declared.Way.{Way}
use Rattle.slots.specs.Slots.{part, joined}
use Rattle.mixer.specs.Mixer.{mixed}
use Rattle.mixer.specs.Unmixer.{unmixed}
use Rattle.mixer.specs.Mixing.{codeword_bytes}
use Rattle.profile.specs.Profile.{profile_of}

-- by the fields of its record and its sections: Pipe_Width_Slots = Pipe_Width_CUs / CU_Per_CW, and a capacity unit is four interleaver units
unfoldable pub way_of : List ℕ → List (List ℕ) → Way
way_of pipe sections = record {
  profile = profile_of pipe sections;
  regrouping = regrouping_flag pipe;
  slots = pipe_width pipe / units_of (punct_pat pipe);
  units = 4 * units_of (punct_pat pipe);
}

-- the codewords of m slots mixed, slot 0 first
unfoldable pub mixed_frame : ℕ → ℕ → List ℕ → List ℕ
mixed_frame p m l = joined (codeword_bytes p) (λ w. mixed p 12282 (part (codeword_bytes p) l w)) m

-- and in order again
unfoldable pub unmixed_frame : ℕ → ℕ → List ℕ → List ℕ
unmixed_frame p m l = joined (codeword_bytes p) (λ w. unmixed p 12282 (part (codeword_bytes p) l w)) m
