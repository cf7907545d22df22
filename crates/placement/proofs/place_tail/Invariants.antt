-- `placement::place_tail` meets its contract. Assumes nothing.
use Prim.Native.Nat.{◌+◌, ◌*◌}
use Rattle.placement.specs.Inside.{Placed}
use Rattle.placement.proofs.place_tail.Given as goal

abbrev pub invariant-loop-k : goal.invariant-loop-k
invariant-loop-k l = Placed l.pattern l.n l.values l.lane l.v (5 * l.n + l.k)
