-- Of every public function of this crate: any two outcomes that its promise allows agree.
-- Assumes nothing.
use mathlib.Core.Path.{◌≡◌}
use contract.Lifetimes.{Lfts}
use borrow.Fn.World.{ArgsD, ResD}
use borrow.Fn.Kinds.{ended_of}
use denote.Triple.Clauses.{AtExit}
use Rattle.ground.proofs.Outcome.{agree}
use Rattle.pipe_lines.specs.contracts.pipes as pipes
use Rattle.pipe_lines.proofs.pipes.Kinds as pipes_kinds
use Rattle.pipe_lines.proofs.pipes.Reads as pipes_reads
use Rattle.pipe_lines.specs.contracts.tail as tail
use Rattle.pipe_lines.proofs.tail.Kinds as tail_kinds
use Rattle.pipe_lines.proofs.tail.Reads as tail_reads

module _ (κs : Lfts 2) (a : ArgsD pipes.signature κs) where
  pub pipes_agrees : (r r' : ResD pipes.signature κs) (s s' : AtExit (ended_of 2 pipes_kinds.ps pipes_kinds.r) κs) →
      pipes_reads.Post κs a r s → pipes_reads.Post κs a r' s' → (r ≡ r') × (s.1.1.1.0.now ≡ s'.1.1.1.0.now)
  pipes_agrees r r' s s' p q = agree p q

module _ (κs : Lfts 2) (a : ArgsD tail.signature κs) where
  pub tail_agrees : (r r' : ResD tail.signature κs) (s s' : AtExit (ended_of 2 tail_kinds.ps tail_kinds.r) κs) →
      tail_reads.Post κs a r s → tail_reads.Post κs a r' s' → (r ≡ r') × (s.1.1.0.now ≡ s'.1.1.0.now)
  tail_agrees r r' s s' p q = agree p q
