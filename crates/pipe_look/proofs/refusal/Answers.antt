-- `pipe_look::refusal` meets its contract. Assumes nothing.
use borrow.Author.Rules.{rules}
use Rattle.pipe_look.specs.Faults.{frame_faults}
use Rattle.pipe_look.proofs.refusal.Goals as goal

pub returns-then-profile-gt0 : goal.returns-then-profile-gt0
unfolding frame_faults
returns-then-profile-gt0 c = search rules

pub returns : goal.returns
unfolding frame_faults
returns c = search rules
