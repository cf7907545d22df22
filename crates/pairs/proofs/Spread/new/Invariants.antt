-- `pairs::Spread::new` meets its contract. Assumes nothing.
use Prim.Native.Nat.{◌*◌}
use Rattle.pairs.proofs.Spreading.{Filled}
use Rattle.pairs.proofs.Spread.new.Given as goal

abbrev pub invariant-loop-y : goal.invariant-loop-y
invariant-loop-y l = Filled l.table (2 * l.y)
