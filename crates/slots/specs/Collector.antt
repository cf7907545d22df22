-- The collector (clause 4.8), and with it the frame of a pipe.
-- Assumes nothing.
use Rattle.std.specs.Prelude.{ℕ, ◌+◌, ◌*◌, ◌/◌, ◌%◌, List, eqb}
use Rattle.ground.specs.Choice.{choose, either}
use Rattle.slots.specs.declared.Way.{Way}
use Rattle.slots.specs.Disperser.{tap_delay, dispersed}
use Rattle.slots.specs.Slots.{frame_units, joined, zero_unit, fed_to}

-- the place in the pipe's frame of unit k of slot w. Regrouping_Flag 0: all units of slot 0, then those of slot 1, ..; 1: unit 0 of all slots, then unit 1, ..
unfoldable pub place_of : Way → ℕ → ℕ → ℕ
place_of y w k = choose (eqb y.regrouping 0) (w * y.units + k) (k * y.slots + w)

-- the slot and the unit that are read for a place
unfoldable pub slot_at : Way → ℕ → ℕ
slot_at y place = choose (eqb y.regrouping 0) (place / y.units) (place % y.slots)

unfoldable pub unit_at : Way → ℕ → ℕ
unit_at y place = choose (eqb y.regrouping 0) (place % y.units) (place / y.slots)

-- both as one number, counted over all slots; with no slots there is nothing to regroup
unfoldable pub unit_for : ℕ → ℕ → ℕ → ℕ → ℕ
unit_for regrouping slots units place = choose (either (eqb regrouping 0) (eqb slots 0)) place (place % slots * units + place / slots)

-- the frame f of the pipe, by the frames of mixed codewords so far
unfoldable pub pipe_unit : Way → (ℕ → List ℕ) → ℕ → ℕ → List ℕ
pipe_unit y frames f place = dispersed zero_unit (tap_delay y.profile) (fed_to y frames (slot_at y place)) f (unit_at y place)

unfoldable pub pipe_frame : Way → (ℕ → List ℕ) → ℕ → List ℕ
pipe_frame y frames f = joined 64 (pipe_unit y frames f) (frame_units y)
