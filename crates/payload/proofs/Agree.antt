-- Of every public function of this crate: any two outcomes that its promise allows agree.
-- Assumes nothing.
use mathlib.Core.Path.{◌≡◌}
use contract.Lifetimes.{Lfts}
use borrow.Fn.World.{ArgsD, ResD}
use borrow.Fn.Kinds.{ended_of}
use denote.Triple.Clauses.{AtExit}
use Rattle.ground.proofs.Outcome.{same}
use Rattle.ground.proofs.Refusals.{agree_status}
use Rattle.payload.proofs.Answers.{told_inj}
use Rattle.payload.specs.contracts.read as read
use Rattle.payload.proofs.read.Kinds as read_kinds
use Rattle.payload.proofs.read.Reads as read_reads
use Rattle.payload.specs.contracts.payload_of as payload_of
use Rattle.payload.proofs.payload_of.Kinds as payload_of_kinds
use Rattle.payload.proofs.payload_of.Reads as payload_of_reads
use Rattle.payload.specs.contracts.read_into as read_into
use Rattle.payload.proofs.read_into.Kinds as read_into_kinds
use Rattle.payload.proofs.read_into.Reads as read_into_reads

module _ (κs : Lfts 1) (a : ArgsD read.signature κs) where
  pub read_agrees : (r r' : ResD read.signature κs) (s s' : AtExit (ended_of 1 read_kinds.ps read_kinds.r) κs) →
      read_reads.Post κs a r s → read_reads.Post κs a r' s' → r ≡ r'
  read_agrees r r' s s' p q = told_inj r r' (same p.0 q.0)

module _ (κs : Lfts 1) (a : ArgsD payload_of.signature κs) where
  pub payload_of_agrees : (r r' : ResD payload_of.signature κs) (s s' : AtExit (ended_of 1 payload_of_kinds.ps payload_of_kinds.r) κs) →
      payload_of_reads.Post κs a r s → payload_of_reads.Post κs a r' s' → r.now ≡ r'.now
  payload_of_agrees r r' s s' p q = same p q

module _ (κs : Lfts 2) (a : ArgsD read_into.signature κs) where
  pub read_into_agrees : (r r' : ResD read_into.signature κs) (s s' : AtExit (ended_of 2 read_into_kinds.ps read_into_kinds.r) κs) →
      read_into_reads.Post κs a r s → read_into_reads.Post κs a r' s' → (r ≡ r') × (s.1.0.now ≡ s'.1.0.now)
  read_into_agrees r r' s s' p q = agree_status p q
