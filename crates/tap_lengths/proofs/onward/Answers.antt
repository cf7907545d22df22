-- `tap_lengths::onward` meets its contract. Assumes nothing.
use borrow.Author.Rules.{rules}
use Rattle.tap_lengths.specs.Inside.{onward_of}
use Rattle.tap_lengths.proofs.onward.Goals as goal

pub returns-then-t-gt1 : goal.returns-then-t-gt1
unfolding onward_of
returns-then-t-gt1 c = search rules

pub returns-then-t-n : goal.returns-then-t-n
unfolding onward_of
returns-then-t-n c = search rules

pub returns-else-t-n : goal.returns-else-t-n
unfolding onward_of
returns-else-t-n c = search rules
