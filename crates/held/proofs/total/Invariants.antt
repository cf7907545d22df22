-- `held::total` meets its contract: the sum of some values has at most as many times a byte's size, so that nothing wraps. Assumes nothing.
use Prim.Native.Nat.{◌*◌}
use mathlib.Core.Path.{◌≡◌}
use lib.IntN.{pos, neg_ℤ}
use lib.ListN.{take}
use lib.Signed.{◌≤ℤ◌}
use Rattle.held.specs.Held.{sum}
use Rattle.held.proofs.total.Given as goal

abbrev pub invariant-loop-value : goal.invariant-loop-value
invariant-loop-value l = (l.sum ≡ sum (take l.value-index l.values)) × (neg_ℤ (pos (128 * l.value-index)) ≤ℤ l.sum) × (l.sum ≤ℤ pos (128 * l.value-index))
