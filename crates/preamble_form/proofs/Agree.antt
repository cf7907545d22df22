-- Of every public function of this crate: any two outcomes that its promise allows agree.
-- Assumes nothing.
use mathlib.Core.Path.{◌≡◌}
use contract.Lifetimes.{Lfts}
use borrow.Fn.World.{ArgsD, ResD}
use borrow.Fn.Kinds.{ended_of}
use denote.Triple.Clauses.{AtExit}
use Rattle.ground.proofs.Outcome.{same}
use Rattle.ground.proofs.Refusals.{agree_status}
use Rattle.preamble_form.proofs.Telling.{told_inj}
use Rattle.preamble_form.specs.contracts.tell as tell
use Rattle.preamble_form.proofs.tell.Kinds as tell_kinds
use Rattle.preamble_form.proofs.tell.Reads as tell_reads
use Rattle.preamble_form.specs.contracts.tell_into as tell_into
use Rattle.preamble_form.proofs.tell_into.Kinds as tell_into_kinds
use Rattle.preamble_form.proofs.tell_into.Reads as tell_into_reads

module _ (κs : Lfts 1) (a : ArgsD tell.signature κs) where
  pub tell_agrees : (r r' : ResD tell.signature κs) (s s' : AtExit (ended_of 1 tell_kinds.ps tell_kinds.r) κs) →
      tell_reads.Post κs a r s → tell_reads.Post κs a r' s' → r ≡ r'
  tell_agrees r r' s s' p q = told_inj r r' (same p q)

module _ (κs : Lfts 2) (a : ArgsD tell_into.signature κs) where
  pub tell_into_agrees : (r r' : ResD tell_into.signature κs) (s s' : AtExit (ended_of 2 tell_into_kinds.ps tell_into_kinds.r) κs) →
      tell_into_reads.Post κs a r s → tell_into_reads.Post κs a r' s' → (r ≡ r') × (s.1.0.now ≡ s'.1.0.now)
  tell_into_agrees r r' s s' p q = agree_status p q
