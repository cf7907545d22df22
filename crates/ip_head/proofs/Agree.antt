-- Of every public function of this crate: any two outcomes that its promise allows agree.
-- Assumes nothing.
use mathlib.Core.Path.{◌≡◌}
use contract.Lifetimes.{Lfts}
use borrow.Fn.World.{ArgsD, ResD}
use borrow.Fn.Kinds.{ended_of}
use denote.Triple.Clauses.{AtExit}
use Rattle.ground.proofs.Outcome.{same}
use Rattle.ip_head.specs.contracts.fits as fits
use Rattle.ip_head.proofs.fits.Kinds as fits_kinds
use Rattle.ip_head.proofs.fits.Reads as fits_reads
use Rattle.ip_head.specs.contracts.address_after as address_after
use Rattle.ip_head.proofs.address_after.Kinds as address_after_kinds
use Rattle.ip_head.proofs.address_after.Reads as address_after_reads
use Rattle.ip_head.specs.contracts.unsendable as unsendable
use Rattle.ip_head.proofs.unsendable.Kinds as unsendable_kinds
use Rattle.ip_head.proofs.unsendable.Reads as unsendable_reads
use Rattle.ip_head.specs.contracts.error_bit as error_bit
use Rattle.ip_head.proofs.error_bit.Kinds as error_bit_kinds
use Rattle.ip_head.proofs.error_bit.Reads as error_bit_reads
use Rattle.ip_head.specs.contracts.head_of as head_of
use Rattle.ip_head.proofs.head_of.Kinds as head_of_kinds
use Rattle.ip_head.proofs.head_of.Reads as head_of_reads
use Rattle.ip_head.specs.contracts.is_padding as is_padding
use Rattle.ip_head.proofs.is_padding.Kinds as is_padding_kinds
use Rattle.ip_head.proofs.is_padding.Reads as is_padding_reads
use Rattle.ip_head.specs.contracts.unfit as unfit
use Rattle.ip_head.proofs.unfit.Kinds as unfit_kinds
use Rattle.ip_head.proofs.unfit.Reads as unfit_reads

module _ (κs : Lfts 0) (a : ArgsD fits.signature κs) where
  pub fits_agrees : (r r' : ResD fits.signature κs) (s s' : AtExit (ended_of 0 fits_kinds.ps fits_kinds.r) κs) →
      fits_reads.Post κs a r s → fits_reads.Post κs a r' s' → r ≡ r'
  fits_agrees r r' s s' p q = same p q

module _ (κs : Lfts 0) (a : ArgsD address_after.signature κs) where
  pub address_after_agrees : (r r' : ResD address_after.signature κs) (s s' : AtExit (ended_of 0 address_after_kinds.ps address_after_kinds.r) κs) →
      address_after_reads.Post κs a r s → address_after_reads.Post κs a r' s' → r ≡ r'
  address_after_agrees r r' s s' p q = same p.0 q.0

module _ (κs : Lfts 0) (a : ArgsD unsendable.signature κs) where
  pub unsendable_agrees : (r r' : ResD unsendable.signature κs) (s s' : AtExit (ended_of 0 unsendable_kinds.ps unsendable_kinds.r) κs) →
      unsendable_reads.Post κs a r s → unsendable_reads.Post κs a r' s' → r ≡ r'
  unsendable_agrees r r' s s' p q = same p q

module _ (κs : Lfts 0) (a : ArgsD error_bit.signature κs) where
  pub error_bit_agrees : (r r' : ResD error_bit.signature κs) (s s' : AtExit (ended_of 0 error_bit_kinds.ps error_bit_kinds.r) κs) →
      error_bit_reads.Post κs a r s → error_bit_reads.Post κs a r' s' → r ≡ r'
  error_bit_agrees r r' s s' p q = same p.0 q.0

module _ (κs : Lfts 0) (a : ArgsD head_of.signature κs) where
  pub head_of_agrees : (r r' : ResD head_of.signature κs) (s s' : AtExit (ended_of 0 head_of_kinds.ps head_of_kinds.r) κs) →
      head_of_reads.Post κs a r s → head_of_reads.Post κs a r' s' → r ≡ r'
  head_of_agrees r r' s s' p q = same p.0 q.0

module _ (κs : Lfts 0) (a : ArgsD is_padding.signature κs) where
  pub is_padding_agrees : (r r' : ResD is_padding.signature κs) (s s' : AtExit (ended_of 0 is_padding_kinds.ps is_padding_kinds.r) κs) →
      is_padding_reads.Post κs a r s → is_padding_reads.Post κs a r' s' → r ≡ r'
  is_padding_agrees r r' s s' p q = same p q

module _ (κs : Lfts 0) (a : ArgsD unfit.signature κs) where
  pub unfit_agrees : (r r' : ResD unfit.signature κs) (s s' : AtExit (ended_of 0 unfit_kinds.ps unfit_kinds.r) κs) →
      unfit_reads.Post κs a r s → unfit_reads.Post κs a r' s' → r ≡ r'
  unfit_agrees r r' s s' p q = same p q
