-- `pipe_look::look` meets its contract. Assumes nothing.
use borrow.Author.Rules.{rules}
use native.Mathlib.Omega.{arith}
use Rattle.patterns.proofs.Rates.{units_some}
use Rattle.pipe_look.specs.Faults.{frame_faults}
use Rattle.pipe_look.proofs.look.Goals as goal
use Rattle.pipe_look.proofs.look.Goals.{then-width-units-ne0-via-then-width-units-ne0, then-width-units-ne0-via-else-width-units-ne0+then-codewords-size, then-width-units-ne0-via-else-width-units-ne0+else-codewords-size+then-memory-greatest, then-width-units-ne0-via-else-width-units-ne0+else-codewords-size+else-memory-greatest+then-out-size}

pub returns-then-p-ge-PATTERNS : goal.returns-then-p-ge-PATTERNS
unfolding frame_faults
returns-then-p-ge-PATTERNS c = search rules

pub nonzero_rem-width : goal.nonzero_rem-width
nonzero_rem-width c = omega (arith, c.units.ensures, units_some c.args.pattern (omega arith))

pub returns-then-width-units-ne0 : goal.returns-then-width-units-ne0
unfolding frame_faults
returns-then-width-units-ne0 c = search rules

pub returns : goal.returns
unfolding frame_faults
returns c = search rules
