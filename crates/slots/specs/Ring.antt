-- The ring: memory that keeps the last (greatest delay + 1) frames of mixed codewords, and one frame through it.
-- Assumes nothing.
use Rattle.std.specs.Prelude.{ℕ, zero, suc, ◌+◌, ◌-◌, ◌*◌, ◌/◌, ◌%◌, List, eqb, length, get_or, replicate}
use Rattle.std.proofs.Math.Seq.{paste}
use Rattle.ground.specs.Outcome.{Outcome}
use Rattle.ground.specs.Choice.{choose, both}
use Rattle.ground.specs.Table.{tab}
use Rattle.slots.specs.declared.Way.{Way}
use Rattle.slots.specs.Disperser.{tap_delay}
use Rattle.slots.specs.Slots.{frame_bytes}
use Rattle.slots.specs.Collector.{slot_at, unit_at}

-- how many frames it has
abbrev pub depth : Way → ℕ
depth y = y.profile.greatest + 1

-- before the first frame
abbrev pub fresh : Way → List ℕ
fresh y = replicate (depth y * frame_bytes y) 0

-- its row f mod depth becomes the frame f
unfoldable pub taken : Way → ℕ → List ℕ → List ℕ → List ℕ
taken y f frame ring = paste ring (f % depth y * frame_bytes y) frame (frame_bytes y)

-- the row of the frame that lies d before f
abbrev pub row_back : Way → ℕ → ℕ → ℕ
row_back y f d = (f + depth y - d) % depth y

-- where byte q of the pipe's frame stands in a frame of mixed codewords
unfoldable pub source : Way → ℕ → ℕ
source y q = (slot_at y (q / 64) * y.units + unit_at y (q / 64)) * 64 + q % 64

-- byte q of the pipe's frame f, read out of the ring: its unit comes from the row of the frame that lies our delay of that unit before
unfoldable pub byte_from : Way → ℕ → List ℕ → ℕ → ℕ
byte_from y f ring q = get_or ring (row_back y f (tap_delay y.profile (unit_at y (q / 64))) * frame_bytes y + source y q) 0

-- what is read out of a ring where it and the room for the frame have their size
unfoldable pub dispersing : Way → ℕ → List ℕ → List ℕ → List ℕ
dispersing y f ring out =
    choose (both (eqb (length out) (frame_bytes y)) (eqb (length ring) (depth y * frame_bytes y))) (tab (byte_from y f ring) 0 (frame_bytes y)) out

-- one frame: the ring takes it, then the pipe's frame is read out
unfoldable pub step : Way → ℕ → List ℕ → List ℕ → Outcome (List ℕ) (List ℕ)
step y f frame ring = record { answer = tab (byte_from y f (taken y f frame ring)) 0 (frame_bytes y); memory = taken y f frame ring }

-- the ring before frame f: the frames 0, 1, .. went through it
unfoldable pub ring_at : Way → (ℕ → List ℕ) → ℕ → List ℕ
ring_at y frames zero = fresh y
ring_at y frames (suc f) = (step y f (frames f) (ring_at y frames f)).memory
