-- `parts::parts` meets its contract: after i bytes of each the four numbers are the parts of the i bytes. Assumes nothing.
use Rattle.std.proofs.Common.{◌≡◌, ℕ, ◌*◌, ◌≤◌, ◌<◌, length, get_or}
use Rattle.parity.specs.Steps.{run_of}
use Rattle.parts.proofs.parts.Given as goal

abbrev pub invariant-loop-i : goal.invariant-loop-i
invariant-loop-i l = (length l.v ≡ 4) × (l.i ≤ 376) × ((k : ℕ) → k < 4 → get_or l.v k 0 ≡ run_of l.word (376 * k) l.i)
