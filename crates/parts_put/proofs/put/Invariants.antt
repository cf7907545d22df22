-- `parts_put::put` meets its contract: after k numbers the sink holds just these. Assumes nothing.
use Rattle.parts_put.proofs.Puts.{Done}
use Rattle.parts_put.proofs.put.Given as goal

abbrev pub invariant-loop-part : goal.invariant-loop-part
invariant-loop-part l = Done l.v l.part-index l.out l.s
