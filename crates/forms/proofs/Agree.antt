-- Of every public function of this crate: any two outcomes that its promise allows agree.
-- Assumes nothing.
use mathlib.Core.Path.{◌≡◌}
use contract.Lifetimes.{Lfts}
use borrow.Fn.World.{ArgsD, ResD}
use borrow.Fn.Kinds.{ended_of}
use denote.Triple.Clauses.{AtExit}
use Rattle.ground.proofs.Outcome.{same}
use Rattle.ground.proofs.Refusals.{status_same}
use Rattle.sheets.proofs.Told.{told_one}
use Rattle.forms.specs.contracts.check as check
use Rattle.forms.proofs.check.Kinds as check_kinds
use Rattle.forms.proofs.check.Reads as check_reads
use Rattle.forms.specs.contracts.judge.record_fault as record_fault
use Rattle.forms.proofs.judge.record_fault.Kinds as record_fault_kinds
use Rattle.forms.proofs.judge.record_fault.Reads as record_fault_reads

module _ (κs : Lfts 1) (a : ArgsD record_fault.signature κs) where
  pub record_fault_agrees : (r r' : ResD record_fault.signature κs) (s s' : AtExit (ended_of 1 record_fault_kinds.ps record_fault_kinds.r) κs) →
      record_fault_reads.Post κs a r s → record_fault_reads.Post κs a r' s' → r ≡ r'
  record_fault_agrees r r' s s' p q = status_same r r' (same p q)

module _ (κs : Lfts 1) (a : ArgsD check.signature κs) where
  pub check_agrees : (r r' : ResD check.signature κs) (s s' : AtExit (ended_of 1 check_kinds.ps check_kinds.r) κs) →
      check_reads.Post κs a r s → check_reads.Post κs a r' s' → r ≡ r'
  check_agrees r r' s s' p q = told_one r r' (same p.0 q.0)
