-- Of every public function of this crate: any two outcomes that its promise allows agree.
-- Assumes nothing.
use mathlib.Core.Path.{◌≡◌}
use contract.Lifetimes.{Lfts}
use borrow.Fn.World.{ArgsD, ResD}
use borrow.Fn.Kinds.{ended_of}
use denote.Triple.Clauses.{AtExit}
use Rattle.ground.proofs.Outcome.{same}
use Rattle.crc.specs.contracts.crc8 as crc8
use Rattle.crc.proofs.crc8.Kinds as crc8_kinds
use Rattle.crc.proofs.crc8.Reads as crc8_reads
use Rattle.crc.specs.contracts.crc12 as crc12
use Rattle.crc.proofs.crc12.Kinds as crc12_kinds
use Rattle.crc.proofs.crc12.Reads as crc12_reads

module _ (κs : Lfts 1) (a : ArgsD crc8.signature κs) where
  pub crc8_agrees : (r r' : ResD crc8.signature κs) (s s' : AtExit (ended_of 1 crc8_kinds.ps crc8_kinds.r) κs) →
      crc8_reads.Post κs a r s → crc8_reads.Post κs a r' s' → r ≡ r'
  crc8_agrees r r' s s' p q = same p q

module _ (κs : Lfts 1) (a : ArgsD crc12.signature κs) where
  pub crc12_agrees : (r r' : ResD crc12.signature κs) (s s' : AtExit (ended_of 1 crc12_kinds.ps crc12_kinds.r) κs) →
      crc12_reads.Post κs a r s → crc12_reads.Post κs a r' s' → r ≡ r'
  crc12_agrees r r' s s' p q = same p q
