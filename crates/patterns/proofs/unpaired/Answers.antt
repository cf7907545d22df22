-- `patterns::unpaired` meets its contract. Assumes nothing.
use borrow.Author.Tests.{eq-eqb, ne_eqb}
use Rattle.patterns.specs.Blocks.{unpaired}
use Rattle.patterns.proofs.unpaired.Goals as goal

pub returns-then-n-eq-SIGNALLING_BLOCK : goal.returns-then-n-eq-SIGNALLING_BLOCK
unfolding unpaired
returns-then-n-eq-SIGNALLING_BLOCK c = simp (eq-eqb _ _ c.if-n-eq-SIGNALLING_BLOCK.true)

pub returns-else-n-eq-SIGNALLING_BLOCK : goal.returns-else-n-eq-SIGNALLING_BLOCK
unfolding unpaired
returns-else-n-eq-SIGNALLING_BLOCK c = simp (ne_eqb _ _ c.if-n-eq-SIGNALLING_BLOCK.false)
