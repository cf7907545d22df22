-- What is wanted of dispersers and collector: the propositions that are proved.
-- Assumes nothing.
use Rattle.std.specs.Prelude.{ℕ, ◌-◌, ◌%◌, ◌≤◌, ◌<◌, ◌≡◌, List, leb, length, replicate}
use Rattle.ground.specs.Choice.{choose}
use Rattle.slots.specs.declared.Way.{Way}
use Rattle.slots.specs.Disperser.{tap_delay_rec}
use Rattle.slots.specs.Slots.{frame_units, frame_bytes}
use Rattle.slots.specs.Collector.{place_of, slot_at, unit_at, pipe_frame}
use Rattle.slots.specs.Receiver.{received_frame}
use Rattle.slots.specs.Ring.{depth, step, ring_at}

-- in either mode each unit of a frame has exactly one place, and each place exactly one unit
pub record Collected (y : Way) : Type 0 where
  pub inside : (w k : ℕ) → w < y.slots → k < y.units → place_of y w k < frame_units y
  pub slot_inside : (j : ℕ) → j < frame_units y → slot_at y j < y.slots
  pub unit_inside : (j : ℕ) → j < frame_units y → unit_at y j < y.units
  pub slot_back : (w k : ℕ) → w < y.slots → k < y.units → slot_at y (place_of y w k) ≡ w
  pub unit_back : (w k : ℕ) → w < y.slots → k < y.units → unit_at y (place_of y w k) ≡ k
  pub again : (j : ℕ) → j < frame_units y → place_of y (slot_at y j) (unit_at y j) ≡ j

abbrev pub CollectedOnce : Type 0
CollectedOnce = (y : Way) → Collected y

-- the frames up to f have their length
abbrev pub Framed : Way → (ℕ → List ℕ) → ℕ → Type 0
Framed y frames f = (g : ℕ) → g ≤ f → length (frames g) ≡ frame_bytes y

-- frames that go through the ring one after the other, the first through the fresh one, come out as the definition over all frames says
abbrev pub RingRight : Type 0
RingRight = (y : Way) (frames : ℕ → List ℕ) (f : ℕ) → Framed y frames f → (step y f (frames f) (ring_at y frames f)).answer ≡ pipe_frame y frames f

-- of a frame's number only the remainder by the ring's depth matters
abbrev pub OnlyRemainder : Type 0
OnlyRemainder = (y : Way) (f g : ℕ) → f % depth y ≡ g % depth y → (frame ring : List ℕ) → step y f frame ring ≡ step y g frame ring

-- a way whose taps are at most the greatest delay
abbrev pub Within : Way → Type 0
Within y = (k : ℕ) → tap_delay_rec y.profile k ≤ y.profile.greatest

-- the receiver has at frame f the mixed codewords of frame f - greatest, and zeros before
abbrev pub ComesBack : Type 0
ComesBack = (y : Way) → Within y → (frames : ℕ → List ℕ) (f : ℕ) → Framed y frames f
    → received_frame y (pipe_frame y frames) f ≡ choose (leb y.profile.greatest f) (frames (f - y.profile.greatest)) (replicate (frame_bytes y) 0)
