-- `listed::single::unpack` meets its contract. Assumes nothing.
use Rattle.listed.proofs.Singly.{Unpacking}
use Rattle.listed.proofs.single.unpack.Given as goal

abbrev pub invariant-loop-i : goal.invariant-loop-i
invariant-loop-i l = Unpacking l.word l.d l.i
