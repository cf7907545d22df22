-- `steps::onward` meets its contract. Assumes nothing.
use Rattle.std.proofs.Common.{arith}
use Rattle.steps.specs.Steps.{onward}
use Rattle.steps.proofs.onward.Goals as goal

pub returns : goal.returns
unfolding onward
returns c = rw c.from.ensures (omega arith)
