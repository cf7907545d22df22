-- Of every public function of this crate: any two outcomes that its promise allows agree.
-- Assumes nothing.
use mathlib.Core.Path.{◌≡◌}
use contract.Lifetimes.{Lfts}
use borrow.Fn.World.{ArgsD, ResD}
use borrow.Fn.Kinds.{ended_of}
use denote.Triple.Clauses.{AtExit}
use Rattle.ground.proofs.Outcome.{same}
use Rattle.taps.specs.contracts.any_taps_wrong as any_taps_wrong
use Rattle.taps.proofs.any_taps_wrong.Kinds as any_taps_wrong_kinds
use Rattle.taps.proofs.any_taps_wrong.Reads as any_taps_wrong_reads

module _ (κs : Lfts 1) (a : ArgsD any_taps_wrong.signature κs) where
  pub any_taps_wrong_agrees : (r r' : ResD any_taps_wrong.signature κs) (s s' : AtExit (ended_of 1 any_taps_wrong_kinds.ps any_taps_wrong_kinds.r) κs) →
      any_taps_wrong_reads.Post κs a r s → any_taps_wrong_reads.Post κs a r' s' → r ≡ r'
  any_taps_wrong_agrees r r' s s' p q = same p q
