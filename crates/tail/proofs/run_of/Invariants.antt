-- `tail::run_of` meets its contract. Assumes nothing.
use Prim.Native.Nat.{◌/◌}
use Rattle.constituent.specs.Six.{state_of}
use Rattle.tail.proofs.Laws.{Running}
use Rattle.tail.proofs.run_of.Given as goal

abbrev pub invariant-loop-k : goal.invariant-loop-k
invariant-loop-k l = Running l.rows (state_of (l.both / 8)) (state_of l.both) l.r l.k
