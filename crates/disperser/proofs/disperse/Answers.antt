-- `disperser::disperse` meets its contract. Assumes nothing.
use borrow.Author.Rules.{rules}
use Rattle.slots.specs.Ring.{dispersing}
use Rattle.disperser.proofs.disperse.Goals as goal

pub returns-then-ring-frames : goal.returns-then-ring-frames
unfolding dispersing
returns-then-ring-frames c = search rules

pub returns-else-out-size : goal.returns-else-out-size
unfolding dispersing
returns-else-out-size c = search rules
