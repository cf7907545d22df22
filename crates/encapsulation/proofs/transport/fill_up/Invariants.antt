-- `encapsulation::transport::fill_up` meets its contract: after k packets those from count to k are null packets. Assumes nothing.
use Rattle.encapsulation.proofs.Stores.{Filled}
use Rattle.encapsulation.proofs.transport.fill_up.Given as goal

abbrev pub invariant-loop-k : goal.invariant-loop-k
invariant-loop-k l = Filled l.initial.word l.null l.count l.k l.word
