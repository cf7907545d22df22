-- Of every public function of this crate: any two outcomes that its promise allows agree.
-- Assumes nothing.
use mathlib.Core.Path.{◌≡◌}
use contract.Lifetimes.{Lfts}
use borrow.Fn.World.{ArgsD, ResD}
use borrow.Fn.Kinds.{ended_of}
use denote.Triple.Clauses.{AtExit}
use Rattle.ground.proofs.Outcome.{same}
use Rattle.listed.specs.contracts.read_into as read_into
use Rattle.listed.proofs.read_into.Kinds as read_into_kinds
use Rattle.listed.proofs.read_into.Reads as read_into_reads
use Rattle.listed.specs.contracts.read as read
use Rattle.listed.proofs.read.Kinds as read_kinds
use Rattle.listed.proofs.read.Reads as read_reads

module _ (κs : Lfts 2) (a : ArgsD read_into.signature κs) where
  pub read_into_agrees : (r r' : ResD read_into.signature κs) (s s' : AtExit (ended_of 2 read_into_kinds.ps read_into_kinds.r) κs) →
      read_into_reads.Post κs a r s → read_into_reads.Post κs a r' s' → s.1.0.now ≡ s'.1.0.now
  read_into_agrees r r' s s' p q = same p q

module _ (κs : Lfts 1) (a : ArgsD read.signature κs) where
  pub read_agrees : (r r' : ResD read.signature κs) (s s' : AtExit (ended_of 1 read_kinds.ps read_kinds.r) κs) →
      read_reads.Post κs a r s → read_reads.Post κs a r' s' → r ≡ r'
  read_agrees r r' s s' p q = same p q
