-- What functions inside this crate ask; no public promise cites it.
-- Assumes nothing.
use Rattle.std.specs.Prelude.{ℕ, ◌*◌, ◌<◌, ◌≡◌, List, length}
use Rattle.ground.specs.Table.{tab}
use Rattle.slots.specs.declared.Way.{Way}
use Rattle.slots.specs.Disperser.{tap_delay}
use Rattle.slots.specs.Slots.{frame_bytes}
use Rattle.slots.specs.Ring.{depth}

-- what reading a whole frame asks
pub record Gathers (y : Way) (delays : List ℕ) (f : ℕ) (ring out : List ℕ) : Type 0 where
  pub small : y.slots < 65536
  pub narrow : y.units < 256
  pub shallow : y.profile.greatest < 65536
  pub ours : delays ≡ tab (tap_delay y.profile) 0 32
  pub number : f < 4294967296
  pub whole : length ring ≡ depth y * frame_bytes y
  pub room : length out ≡ frame_bytes y
