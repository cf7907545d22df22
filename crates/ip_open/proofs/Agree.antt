-- Of every public function of this crate: any two outcomes that its promise allows agree.
-- Assumes nothing.
use mathlib.Core.Path.{◌≡◌}
use contract.Lifetimes.{Lfts}
use borrow.Fn.World.{ArgsD, ResD}
use borrow.Fn.Kinds.{ended_of}
use denote.Triple.Clauses.{AtExit}
use Rattle.ground.proofs.Outcome.{same}
use Rattle.ground.proofs.Refusals.{agree_status}
use Rattle.ip_open.proofs.Means.{told_same}
use Rattle.ip_open.specs.contracts.open_in as open_in
use Rattle.ip_open.proofs.open_in.Kinds as open_in_kinds
use Rattle.ip_open.proofs.open_in.Reads as open_in_reads
use Rattle.ip_open.specs.contracts.lost as lost
use Rattle.ip_open.proofs.lost.Kinds as lost_kinds
use Rattle.ip_open.proofs.lost.Reads as lost_reads

module _ (κs : Lfts 1) (a : ArgsD open_in.signature κs) where
  pub open_in_agrees : (r r' : ResD open_in.signature κs) (s s' : AtExit (ended_of 1 open_in_kinds.ps open_in_kinds.r) κs) →
      open_in_reads.Post κs a r s → open_in_reads.Post κs a r' s' → r ≡ r'
  open_in_agrees r r' s s' p q = told_same r r' (same p q)

module _ (κs : Lfts 1) (a : ArgsD lost.signature κs) where
  pub lost_agrees : (r r' : ResD lost.signature κs) (s s' : AtExit (ended_of 1 lost_kinds.ps lost_kinds.r) κs) →
      lost_reads.Post κs a r s → lost_reads.Post κs a r' s' → (r ≡ r') × (s.0.now ≡ s'.0.now)
  lost_agrees r r' s s' p q = agree_status p q
