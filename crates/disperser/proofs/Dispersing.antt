-- What is read out of a ring that has its size, into a frame that has its.
-- Assumes nothing.
use Prim.Native.Nat.{ℕ, ◌*◌}
use mathlib.Core.Path.{◌≡◌, sym, ap₂}
use mathlib.Core.List.{List}
use borrow.Author.Tests.{eq-eqb}
use lib.ListN.{length}
use Rattle.ground.specs.Choice.{both}
use Rattle.ground.specs.Table.{tab}
use Rattle.ground.proofs.Choice.{choose_true}
use Rattle.slots.specs.declared.Way.{Way}
use Rattle.slots.specs.Slots.{frame_bytes}
use Rattle.slots.specs.Ring.{depth, byte_from, dispersing}

module _ (y : Way) (f : ℕ) (ring out : List ℕ) where
  pub read_out : length out ≡ frame_bytes y → length ring ≡ depth y * frame_bytes y → tab (byte_from y f ring) 0 (frame_bytes y) ≡ dispersing y f ring out
  unfolding dispersing
  read_out h k = sym (choose_true _ _ (ap₂ both (eq-eqb (length out) (frame_bytes y) h) (eq-eqb (length ring) (depth y * frame_bytes y) k)))
