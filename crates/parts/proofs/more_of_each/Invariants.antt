-- `parts::more_of_each` meets its contract: the parts before k have the byte, and the others do not yet. Assumes nothing.
use Rattle.std.proofs.Common.{◌≡◌, ℕ, ◌+◌, ◌*◌, ◌≤◌, ◌<◌, length, get_or}
use Rattle.parity.specs.Steps.{run_of}
use Rattle.parts.proofs.more_of_each.Given as goal

abbrev pub invariant-loop-k : goal.invariant-loop-k
invariant-loop-k l = (length l.v ≡ 4) × ((j : ℕ) → j < l.k → get_or l.v j 0 ≡ run_of l.word (376 * j) (l.i + 1)) × ((j : ℕ) → l.k ≤ j → j < 4 → get_or l.v j 0 ≡ run_of l.word (376 * j) l.i)
