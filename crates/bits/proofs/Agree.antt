-- Of every public function of this crate: any two outcomes that its promise allows agree.
-- Assumes nothing.
use mathlib.Core.Path.{◌≡◌}
use contract.Lifetimes.{Lfts}
use borrow.Fn.World.{ArgsD, ResD}
use borrow.Fn.Kinds.{ended_of}
use denote.Triple.Clauses.{AtExit}
use Rattle.ground.proofs.Outcome.{same}
use Rattle.bits.specs.contracts.byte as byte
use Rattle.bits.proofs.byte.Kinds as byte_kinds
use Rattle.bits.proofs.byte.Reads as byte_reads
use Rattle.bits.specs.contracts.bit as bit
use Rattle.bits.proofs.bit.Kinds as bit_kinds
use Rattle.bits.proofs.bit.Reads as bit_reads
use Rattle.bits.specs.contracts.bit_from as bit_from
use Rattle.bits.proofs.bit_from.Kinds as bit_from_kinds
use Rattle.bits.proofs.bit_from.Reads as bit_from_reads
use Rattle.bits.specs.contracts.field as field
use Rattle.bits.proofs.field.Kinds as field_kinds
use Rattle.bits.proofs.field.Reads as field_reads

module _ (κs : Lfts 1) (a : ArgsD byte.signature κs) where
  pub byte_agrees : (r r' : ResD byte.signature κs) (s s' : AtExit (ended_of 1 byte_kinds.ps byte_kinds.r) κs) →
      byte_reads.Post κs a r s → byte_reads.Post κs a r' s' → r ≡ r'
  byte_agrees r r' s s' p q = same p q

module _ (κs : Lfts 1) (a : ArgsD bit.signature κs) where
  pub bit_agrees : (r r' : ResD bit.signature κs) (s s' : AtExit (ended_of 1 bit_kinds.ps bit_kinds.r) κs) →
      bit_reads.Post κs a r s → bit_reads.Post κs a r' s' → r ≡ r'
  bit_agrees r r' s s' p q = same p q

module _ (κs : Lfts 1) (a : ArgsD bit_from.signature κs) where
  pub bit_from_agrees : (r r' : ResD bit_from.signature κs) (s s' : AtExit (ended_of 1 bit_from_kinds.ps bit_from_kinds.r) κs) →
      bit_from_reads.Post κs a r s → bit_from_reads.Post κs a r' s' → r ≡ r'
  bit_from_agrees r r' s s' p q = same p q

module _ (κs : Lfts 1) (a : ArgsD field.signature κs) where
  pub field_agrees : (r r' : ResD field.signature κs) (s s' : AtExit (ended_of 1 field_kinds.ps field_kinds.r) κs) →
      field_reads.Post κs a r s → field_reads.Post κs a r' s' → r ≡ r'
  field_agrees r r' s s' p q = same p q
