-- Of every public function of this crate: any two outcomes that its promise allows agree.
-- Assumes nothing.
use mathlib.Core.Path.{◌≡◌}
use contract.Lifetimes.{Lfts}
use borrow.Fn.World.{ArgsD, ResD}
use borrow.Fn.Kinds.{ended_of}
use denote.Triple.Clauses.{AtExit}
use Rattle.ground.proofs.Outcome.{same}
use Rattle.headers.specs.contracts.header_of as header_of
use Rattle.headers.proofs.header_of.Kinds as header_of_kinds
use Rattle.headers.proofs.header_of.Reads as header_of_reads
use Rattle.headers.specs.contracts.header_wrong as header_wrong
use Rattle.headers.proofs.header_wrong.Kinds as header_wrong_kinds
use Rattle.headers.proofs.header_wrong.Reads as header_wrong_reads

module _ (κs : Lfts 0) (a : ArgsD header_of.signature κs) where
  pub header_of_agrees : (r r' : ResD header_of.signature κs) (s s' : AtExit (ended_of 0 header_of_kinds.ps header_of_kinds.r) κs) →
      header_of_reads.Post κs a r s → header_of_reads.Post κs a r' s' → r ≡ r'
  header_of_agrees r r' s s' p q = same p q

module _ (κs : Lfts 1) (a : ArgsD header_wrong.signature κs) where
  pub header_wrong_agrees : (r r' : ResD header_wrong.signature κs) (s s' : AtExit (ended_of 1 header_wrong_kinds.ps header_wrong_kinds.r) κs) →
      header_wrong_reads.Post κs a r s → header_wrong_reads.Post κs a r' s' → r ≡ r'
  header_wrong_agrees r r' s s' p q = same p q
