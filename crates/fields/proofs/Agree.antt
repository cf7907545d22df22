-- Of every public function of this crate: any two outcomes that its promise allows agree.
-- Assumes nothing.
use mathlib.Core.Path.{◌≡◌}
use contract.Lifetimes.{Lfts}
use borrow.Fn.World.{ArgsD, ResD}
use borrow.Fn.Kinds.{ended_of}
use denote.Triple.Clauses.{AtExit}
use Rattle.ground.proofs.Outcome.{same}
use Rattle.ground.proofs.Refusals.{status_same}
use Rattle.fields.specs.contracts.refusal as refusal
use Rattle.fields.proofs.refusal.Kinds as refusal_kinds
use Rattle.fields.proofs.refusal.Reads as refusal_reads
use Rattle.fields.specs.contracts.address_of as address_of
use Rattle.fields.proofs.address_of.Kinds as address_of_kinds
use Rattle.fields.proofs.address_of.Reads as address_of_reads

module _ (κs : Lfts 1) (a : ArgsD refusal.signature κs) where
  pub refusal_agrees : (r r' : ResD refusal.signature κs) (s s' : AtExit (ended_of 1 refusal_kinds.ps refusal_kinds.r) κs) →
      refusal_reads.Post κs a r s → refusal_reads.Post κs a r' s' → r ≡ r'
  refusal_agrees r r' s s' p q = status_same r r' (same p q)

module _ (κs : Lfts 1) (a : ArgsD address_of.signature κs) where
  pub address_of_agrees : (r r' : ResD address_of.signature κs) (s s' : AtExit (ended_of 1 address_of_kinds.ps address_of_kinds.r) κs) →
      address_of_reads.Post κs a r s → address_of_reads.Post κs a r' s' → r ≡ r'
  address_of_agrees r r' s s' p q = same p.0 q.0
