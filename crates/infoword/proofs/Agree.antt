-- Of every public function of this crate: any two outcomes that its promise allows agree.
-- Assumes nothing.
use mathlib.Core.Path.{◌≡◌}
use contract.Lifetimes.{Lfts}
use borrow.Fn.World.{ArgsD, ResD}
use borrow.Fn.Kinds.{ended_of}
use denote.Triple.Clauses.{AtExit}
use Rattle.ground.proofs.Outcome.{same}
use Rattle.infoword.specs.contracts.StreamTypeFromU32.from as from
use Rattle.infoword.proofs.StreamTypeFromU32.from.Kinds as from_kinds
use Rattle.infoword.proofs.StreamTypeFromU32.from.Reads as from_reads
use Rattle.infoword.specs.contracts.has_parity as has_parity
use Rattle.infoword.proofs.has_parity.Kinds as has_parity_kinds
use Rattle.infoword.proofs.has_parity.Reads as has_parity_reads
use Rattle.infoword.specs.contracts.crc as crc
use Rattle.infoword.proofs.crc.Kinds as crc_kinds
use Rattle.infoword.proofs.crc.Reads as crc_reads
use Rattle.infoword.specs.contracts.bytes as bytes
use Rattle.infoword.proofs.bytes.Kinds as bytes_kinds
use Rattle.infoword.proofs.bytes.Reads as bytes_reads

module _ (κs : Lfts 0) (a : ArgsD from.signature κs) where
  pub from_agrees : (r r' : ResD from.signature κs) (s s' : AtExit (ended_of 0 from_kinds.ps from_kinds.r) κs) →
      from_reads.Post κs a r s → from_reads.Post κs a r' s' → r ≡ r'
  from_agrees r r' s s' p q = same p q

module _ (κs : Lfts 0) (a : ArgsD has_parity.signature κs) where
  pub has_parity_agrees : (r r' : ResD has_parity.signature κs) (s s' : AtExit (ended_of 0 has_parity_kinds.ps has_parity_kinds.r) κs) →
      has_parity_reads.Post κs a r s → has_parity_reads.Post κs a r' s' → r ≡ r'
  has_parity_agrees r r' s s' p q = same p q

module _ (κs : Lfts 1) (a : ArgsD crc.signature κs) where
  pub crc_agrees : (r r' : ResD crc.signature κs) (s s' : AtExit (ended_of 1 crc_kinds.ps crc_kinds.r) κs) →
      crc_reads.Post κs a r s → crc_reads.Post κs a r' s' → r ≡ r'
  crc_agrees r r' s s' p q = same p q

module _ (κs : Lfts 0) (a : ArgsD bytes.signature κs) where
  pub bytes_agrees : (r r' : ResD bytes.signature κs) (s s' : AtExit (ended_of 0 bytes_kinds.ps bytes_kinds.r) κs) →
      bytes_reads.Post κs a r s → bytes_reads.Post κs a r' s' → r ≡ r'
  bytes_agrees r r' s s' p q = same p.0 q.0
