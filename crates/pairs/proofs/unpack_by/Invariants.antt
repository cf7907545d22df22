-- `pairs::unpack_by` meets its contract. Assumes nothing.
use Rattle.pairs.proofs.Coupling.{Segments}
use Rattle.pairs.proofs.unpack_by.Given as goal

abbrev pub invariant-loop-s : goal.invariant-loop-s
invariant-loop-s l = Segments l.block l.half l.initial.d l.d l.s
