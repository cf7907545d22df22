-- `disperser::collect` meets its contract: after j units the frame's bytes before them are those of the ring. Assumes nothing.
use Prim.Native.Nat.{ℕ, ◌*◌, ◌<◌}
use mathlib.Core.Path.{◌≡◌}
use lib.ListN.{get_or}
use Rattle.slots.specs.Ring.{byte_from}
use Rattle.disperser.proofs.collect.Given as goal

abbrev pub invariant-loop-j : goal.invariant-loop-j
invariant-loop-j l = (q : ℕ) → q < l.j * 64 → get_or l.out q 0 ≡ byte_from l.y l.f l.ring q
