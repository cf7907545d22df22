-- `slots::unit_for` meets its contract. Assumes nothing.
use borrow.Author.Rules.{rules}
use Rattle.slots.specs.Collector.{unit_for}
use Rattle.slots.proofs.unit_for.Goals as goal

pub returns-then-n-eq0 : goal.returns-then-n-eq0
unfolding unit_for
returns-then-n-eq0 c = search rules

pub returns-else-n-eq0 : goal.returns-else-n-eq0
unfolding unit_for
returns-else-n-eq0 c = search rules
