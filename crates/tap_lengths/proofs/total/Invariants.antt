-- `tap_lengths::total` meets its contract: after i sections the taps are those of the first i. Assumes nothing.
use Prim.Native.Nat.{◌*◌, ◌≤◌}
use mathlib.Core.Path.{◌≡◌}
use lib.ListN.{take}
use Rattle.tap_lengths.specs.Lengths.{tap_total}
use Rattle.tap_lengths.specs.Sections.{sections_at}
use Rattle.tap_lengths.proofs.total.Given as goal

abbrev pub invariant-loop-i : goal.invariant-loop-i
invariant-loop-i l = (l.taps ≡ tap_total (take l.i (sections_at l.n l.pipe))) × (l.taps ≤ 32 * l.i)
