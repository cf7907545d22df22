-- `patterns::unfit` meets its contract. Assumes nothing.
use Rattle.std.proofs.lemmas.Bool.Decides.{nat_tests}
use native.Mathlib.Omega.{arith}
use borrow.Author.Tests.{eq-eqb}
use Rattle.patterns.specs.Blocks.{block_faults}
use Rattle.patterns.proofs.unfit.Goals as goal

pub returns-then-n-eq0 : goal.returns-then-n-eq0
unfolding block_faults
returns-then-n-eq0 c = simp (eq-eqb _ _ c.if-n-eq0.true)

pub returns-then-pattern-ge-PATTERNS : goal.returns-then-pattern-ge-PATTERNS
unfolding block_faults
returns-then-pattern-ge-PATTERNS c = grind (arith, nat_tests)

pub returns-then-unpaired : goal.returns-then-unpaired
unfolding block_faults
returns-then-unpaired c = grind (arith, nat_tests, c.unpaired.ensures)

pub returns : goal.returns
unfolding block_faults
returns c = grind (arith, nat_tests, c.unpaired.ensures)
