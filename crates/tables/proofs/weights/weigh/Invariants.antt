-- `tables::weights::weigh` meets its contract. Assumes nothing.
use Rattle.tables.proofs.Weighing.{Summed}
use Rattle.tables.proofs.weights.weigh.Given as goal

abbrev pub invariant-loop-t : goal.invariant-loop-t
invariant-loop-t l = Summed l.w l.x l.sum l.t
