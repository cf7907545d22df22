-- `taps::taps_at` meets its contract. Assumes nothing.
use Prim.Native.Nat.{◌*◌, ◌≤◌}
use mathlib.Core.Path.{◌≡◌}
use lib.ListN.{take}
use Rattle.bits.specs.Places.{fields_at}
use Rattle.description.specs.Rows.{total}
use Rattle.description.specs.Tests.{taps_of}
use Rattle.taps.proofs.taps_at.Given as goal

abbrev pub invariant-loop-k : goal.invariant-loop-k
invariant-loop-k l = (l.taps ≡ total taps_of (take l.k (fields_at l.w l.at l.apart 4 l.n))) × (l.taps ≤ 32 * l.k)
