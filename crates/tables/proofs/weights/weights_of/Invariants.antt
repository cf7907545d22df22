-- `tables::weights::weights_of` meets its contract. Assumes nothing.
use Rattle.tables.proofs.Weighing.{Weighing}
use Rattle.tables.proofs.weights.weights_of.Given as goal

abbrev pub invariant-loop-i : goal.invariant-loop-i
invariant-loop-i l = Weighing l.rows l.h l.weights l.bits l.i
