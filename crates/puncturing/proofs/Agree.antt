-- Of every public function of this crate: any two outcomes that its promise allows agree.
-- Assumes nothing.
use mathlib.Core.Path.{◌≡◌}
use contract.Lifetimes.{Lfts}
use borrow.Fn.World.{ArgsD, ResD}
use borrow.Fn.Kinds.{ended_of}
use denote.Triple.Clauses.{AtExit}
use Rattle.ground.proofs.Outcome.{same}
use Rattle.puncturing.specs.contracts.entries as entries
use Rattle.puncturing.proofs.entries.Kinds as entries_kinds
use Rattle.puncturing.proofs.entries.Reads as entries_reads
use Rattle.puncturing.specs.contracts.wide_digit as wide_digit
use Rattle.puncturing.proofs.wide_digit.Kinds as wide_digit_kinds
use Rattle.puncturing.proofs.wide_digit.Reads as wide_digit_reads
use Rattle.puncturing.specs.contracts.digit as digit
use Rattle.puncturing.proofs.digit.Kinds as digit_kinds
use Rattle.puncturing.proofs.digit.Reads as digit_reads

module _ (κs : Lfts 0) (a : ArgsD entries.signature κs) where
  pub entries_agrees : (r r' : ResD entries.signature κs) (s s' : AtExit (ended_of 0 entries_kinds.ps entries_kinds.r) κs) →
      entries_reads.Post κs a r s → entries_reads.Post κs a r' s' → r ≡ r'
  entries_agrees r r' s s' p q = same p q

module _ (κs : Lfts 0) (a : ArgsD wide_digit.signature κs) where
  pub wide_digit_agrees : (r r' : ResD wide_digit.signature κs) (s s' : AtExit (ended_of 0 wide_digit_kinds.ps wide_digit_kinds.r) κs) →
      wide_digit_reads.Post κs a r s → wide_digit_reads.Post κs a r' s' → r ≡ r'
  wide_digit_agrees r r' s s' p q = same p q

module _ (κs : Lfts 0) (a : ArgsD digit.signature κs) where
  pub digit_agrees : (r r' : ResD digit.signature κs) (s s' : AtExit (ended_of 0 digit_kinds.ps digit_kinds.r) κs) →
      digit_reads.Post κs a r s → digit_reads.Post κs a r' s' → r ≡ r'
  digit_agrees r r' s s' p q = same p q
