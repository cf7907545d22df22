-- Of every public function of this crate: any two outcomes that its promise allows agree.
-- Assumes nothing.
use mathlib.Core.Path.{◌≡◌}
use contract.Lifetimes.{Lfts}
use borrow.Fn.World.{ArgsD, ResD}
use borrow.Fn.Kinds.{ended_of}
use denote.Triple.Clauses.{AtExit}
use Rattle.ground.proofs.Outcome.{same}
use Rattle.ground.proofs.Refusals.{agree_status}
use Rattle.preamble.specs.contracts.write as write
use Rattle.preamble.proofs.write.Kinds as write_kinds
use Rattle.preamble.proofs.write.Reads as write_reads
use Rattle.preamble.specs.contracts.sof.due as due
use Rattle.preamble.proofs.sof.due.Kinds as due_kinds
use Rattle.preamble.proofs.sof.due.Reads as due_reads
use Rattle.preamble.specs.contracts.sof.is_inverted as is_inverted
use Rattle.preamble.proofs.sof.is_inverted.Kinds as is_inverted_kinds
use Rattle.preamble.proofs.sof.is_inverted.Reads as is_inverted_reads

module _ (κs : Lfts 1) (a : ArgsD write.signature κs) where
  pub write_agrees : (r r' : ResD write.signature κs) (s s' : AtExit (ended_of 1 write_kinds.ps write_kinds.r) κs) →
      write_reads.Post κs a r s → write_reads.Post κs a r' s' → (r ≡ r') × (s.1.0.now ≡ s'.1.0.now)
  write_agrees r r' s s' p q = agree_status p q

module _ (κs : Lfts 0) (a : ArgsD due.signature κs) where
  pub due_agrees : (r r' : ResD due.signature κs) (s s' : AtExit (ended_of 0 due_kinds.ps due_kinds.r) κs) →
      due_reads.Post κs a r s → due_reads.Post κs a r' s' → r ≡ r'
  due_agrees r r' s s' p q = same p q

module _ (κs : Lfts 0) (a : ArgsD is_inverted.signature κs) where
  pub is_inverted_agrees : (r r' : ResD is_inverted.signature κs) (s s' : AtExit (ended_of 0 is_inverted_kinds.ps is_inverted_kinds.r) κs) →
      is_inverted_reads.Post κs a r s → is_inverted_reads.Post κs a r' s' → r ≡ r'
  is_inverted_agrees r r' s s' p q = same p q
