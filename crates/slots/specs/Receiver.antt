-- The receiver's way back through collector and dispersers, by the pipe's frames so far.
-- Assumes nothing.
use Rattle.std.specs.Prelude.{ℕ, ◌/◌, ◌%◌, List}
use Rattle.slots.specs.declared.Way.{Way}
use Rattle.slots.specs.Disperser.{tap_delay_rec, dispersed}
use Rattle.slots.specs.Slots.{frame_units, joined, unit_of, zero_unit}
use Rattle.slots.specs.Collector.{place_of}

-- unit k of what the receiver's disperser of slot w is fed with in frame g
unfoldable pub uncollected : Way → (ℕ → List ℕ) → ℕ → ℕ → ℕ → List ℕ
uncollected y pipes w g k = unit_of (pipes g) (place_of y w k)

-- the frame of mixed codewords that comes out at frame f
unfoldable pub received_unit : Way → (ℕ → List ℕ) → ℕ → ℕ → ℕ → List ℕ
received_unit y pipes f w k = dispersed zero_unit (tap_delay_rec y.profile) (uncollected y pipes w) f k

unfoldable pub received_frame : Way → (ℕ → List ℕ) → ℕ → List ℕ
received_frame y pipes f = joined 64 (λ j. received_unit y pipes f (j / y.units) (j % y.units)) (frame_units y)
