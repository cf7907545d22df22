-- Of every public function of this crate: any two outcomes that its promise allows agree.
-- Assumes nothing.
use mathlib.Core.Path.{◌≡◌}
use contract.Lifetimes.{Lfts}
use borrow.Fn.World.{ArgsD, ResD}
use borrow.Fn.Kinds.{ended_of}
use denote.Triple.Clauses.{AtExit}
use Rattle.ground.proofs.Outcome.{same}
use Rattle.ground.proofs.Refusals.{status_same}
use Rattle.faults.specs.contracts.list_fault as list_fault
use Rattle.faults.proofs.list_fault.Kinds as list_fault_kinds
use Rattle.faults.proofs.list_fault.Reads as list_fault_reads

module _ (κs : Lfts 1) (a : ArgsD list_fault.signature κs) where
  pub list_fault_agrees : (r r' : ResD list_fault.signature κs) (s s' : AtExit (ended_of 1 list_fault_kinds.ps list_fault_kinds.r) κs) →
      list_fault_reads.Post κs a r s → list_fault_reads.Post κs a r' s' → r ≡ r'
  list_fault_agrees r r' s s' p q = status_same r r' (same p q)
