-- `patterns::block_by` meets its contract. Assumes nothing.
use borrow.Author.Tests.{eq-eqb, ne_eqb}
use Rattle.patterns.specs.Blocks.{block_by}
use Rattle.patterns.proofs.block_by.Goals as goal

pub returns-then-len-payload : goal.returns-then-len-payload
unfolding block_by
returns-then-len-payload c = simp (eq-eqb _ _ c.if-len-payload.true)

pub returns-then-len-signalling : goal.returns-then-len-signalling
unfolding block_by
returns-then-len-signalling c = simp (ne_eqb _ _ c.if-len-payload.false, eq-eqb _ _ c.if-len-signalling.true)

pub returns : goal.returns
unfolding block_by
returns c = simp (ne_eqb _ _ c.if-len-payload.false, ne_eqb _ _ c.if-len-signalling.false)
