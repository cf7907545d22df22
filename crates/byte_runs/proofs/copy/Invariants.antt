-- `bytes::copy` meets its contract: after i bytes the first i of the run stand at the place. Assumes nothing.
use Prim.Native.Nat.{◌+◌, ◌≤◌}
use mathlib.Core.Path.{◌≡◌}
use lib.ListN.{length}
use lib.Seq.{paste}
use Rattle.byte_runs.proofs.copy.Given as goal

abbrev pub invariant-loop-i : goal.invariant-loop-i
invariant-loop-i l = (l.i ≤ length l.run) × (l.at + length l.run ≤ length l.initial.out) × (l.out ≡ paste l.initial.out l.at l.run l.i)
