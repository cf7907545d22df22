-- Of every public function of this crate: any two outcomes that its promise allows agree.
-- Assumes nothing.
use mathlib.Core.Path.{◌≡◌}
use contract.Lifetimes.{Lfts}
use borrow.Fn.World.{ArgsD, ResD}
use borrow.Fn.Kinds.{ended_of}
use denote.Triple.Clauses.{AtExit}
use Rattle.ground.proofs.Outcome.{same}
use Rattle.slots.specs.contracts.tap_delays as tap_delays
use Rattle.slots.proofs.tap_delays.Kinds as tap_delays_kinds
use Rattle.slots.proofs.tap_delays.Reads as tap_delays_reads
use Rattle.slots.specs.contracts.unit_for as unit_for
use Rattle.slots.proofs.unit_for.Kinds as unit_for_kinds
use Rattle.slots.proofs.unit_for.Reads as unit_for_reads

module _ (κs : Lfts 0) (a : ArgsD tap_delays.signature κs) where
  pub tap_delays_agrees : (r r' : ResD tap_delays.signature κs) (s s' : AtExit (ended_of 0 tap_delays_kinds.ps tap_delays_kinds.r) κs) →
      tap_delays_reads.Post κs a r s → tap_delays_reads.Post κs a r' s' → r ≡ r'
  tap_delays_agrees r r' s s' p q = same p q

module _ (κs : Lfts 0) (a : ArgsD unit_for.signature κs) where
  pub unit_for_agrees : (r r' : ResD unit_for.signature κs) (s s' : AtExit (ended_of 0 unit_for_kinds.ps unit_for_kinds.r) κs) →
      unit_for_reads.Post κs a r s → unit_for_reads.Post κs a r' s' → r ≡ r'
  unit_for_agrees r r' s s' p q = same p q
