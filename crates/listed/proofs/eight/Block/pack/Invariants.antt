-- `listed::eight::Block::pack` meets its contract. Assumes nothing.
use Rattle.listed.proofs.Packing.{Reading}
use Rattle.listed.proofs.eight.Block.pack.Given as goal

abbrev pub invariant-loop-i : goal.invariant-loop-i
invariant-loop-i l = Reading l.self.bits.now l.out l.i
