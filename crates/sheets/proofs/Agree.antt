-- Of every public function of this crate: any two outcomes that its promise allows agree.
-- Assumes nothing.
use mathlib.Core.Path.{◌≡◌}
use contract.Lifetimes.{Lfts}
use borrow.Fn.World.{ArgsD, ResD}
use borrow.Fn.Kinds.{ended_of}
use denote.Triple.Clauses.{AtExit}
use Rattle.ground.proofs.Outcome.{same}
use Rattle.sheets.specs.contracts.answer.number as number
use Rattle.sheets.proofs.answer.number.Kinds as number_kinds
use Rattle.sheets.proofs.answer.number.Reads as number_reads
use Rattle.sheets.specs.contracts.owned.owned_at as owned_at
use Rattle.sheets.proofs.owned.owned_at.Kinds as owned_at_kinds
use Rattle.sheets.proofs.owned.owned_at.Reads as owned_at_reads
use Rattle.sheets.specs.contracts.owned.tail_owned_at as tail_owned_at
use Rattle.sheets.proofs.owned.tail_owned_at.Kinds as tail_owned_at_kinds
use Rattle.sheets.proofs.owned.tail_owned_at.Reads as tail_owned_at_reads
use Rattle.sheets.specs.contracts.owned.places_of as places_of
use Rattle.sheets.proofs.owned.places_of.Kinds as places_of_kinds
use Rattle.sheets.proofs.owned.places_of.Reads as places_of_reads

module _ (κs : Lfts 0) (a : ArgsD number.signature κs) where
  pub number_agrees : (r r' : ResD number.signature κs) (s s' : AtExit (ended_of 0 number_kinds.ps number_kinds.r) κs) →
      number_reads.Post κs a r s → number_reads.Post κs a r' s' → r ≡ r'
  number_agrees r r' s s' p q = same p q

module _ (κs : Lfts 1) (a : ArgsD owned_at.signature κs) where
  pub owned_at_agrees : (r r' : ResD owned_at.signature κs) (s s' : AtExit (ended_of 1 owned_at_kinds.ps owned_at_kinds.r) κs) →
      owned_at_reads.Post κs a r s → owned_at_reads.Post κs a r' s' → r ≡ r'
  owned_at_agrees r r' s s' p q = same p q

module _ (κs : Lfts 1) (a : ArgsD tail_owned_at.signature κs) where
  pub tail_owned_at_agrees : (r r' : ResD tail_owned_at.signature κs) (s s' : AtExit (ended_of 1 tail_owned_at_kinds.ps tail_owned_at_kinds.r) κs) →
      tail_owned_at_reads.Post κs a r s → tail_owned_at_reads.Post κs a r' s' → r ≡ r'
  tail_owned_at_agrees r r' s s' p q = same p q

module _ (κs : Lfts 1) (a : ArgsD places_of.signature κs) where
  pub places_of_agrees : (r r' : ResD places_of.signature κs) (s s' : AtExit (ended_of 1 places_of_kinds.ps places_of_kinds.r) κs) →
      places_of_reads.Post κs a r s → places_of_reads.Post κs a r' s' → r ≡ r'
  places_of_agrees r r' s s' p q = same p q
