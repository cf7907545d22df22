-- Of every public function of this crate: any two outcomes that its promise allows agree.
-- Assumes nothing.
use mathlib.Core.Path.{◌≡◌}
use contract.Lifetimes.{Lfts}
use borrow.Fn.World.{ArgsD, ResD}
use borrow.Fn.Kinds.{ended_of}
use denote.Triple.Clauses.{AtExit}
use Rattle.ground.proofs.Outcome.{agree}
use Rattle.lines.specs.contracts.lines as lines
use Rattle.lines.proofs.lines.Kinds as lines_kinds
use Rattle.lines.proofs.lines.Reads as lines_reads

module _ (κs : Lfts 2) (a : ArgsD lines.signature κs) where
  pub lines_agrees : (r r' : ResD lines.signature κs) (s s' : AtExit (ended_of 2 lines_kinds.ps lines_kinds.r) κs) →
      lines_reads.Post κs a r s → lines_reads.Post κs a r' s' → (r ≡ r') × (s.1.1.0.now ≡ s'.1.1.0.now)
  lines_agrees r r' s s' p q = agree p q
