-- `steps::with_tail` meets its contract. Assumes nothing.
use mathlib.Core.Path.{refl}
use Rattle.steps.specs.Steps.{with_tail}
use Rattle.steps.proofs.with_tail.Goals as goal

pub returns : goal.returns
unfolding with_tail
returns c = refl
