-- Of every public function of this crate: any two outcomes that its promise allows agree.
-- Assumes nothing.
use mathlib.Core.Path.{◌≡◌}
use contract.Lifetimes.{Lfts}
use borrow.Fn.World.{ArgsD, ResD}
use borrow.Fn.Kinds.{ended_of}
use denote.Triple.Clauses.{AtExit}
use Rattle.ground.proofs.Outcome.{same}
use Rattle.ip_queue.proofs.Seen.{told_same}
use Rattle.ip_queue.specs.contracts.look as look
use Rattle.ip_queue.proofs.look.Kinds as look_kinds
use Rattle.ip_queue.proofs.look.Reads as look_reads

module _ (κs : Lfts 1) (a : ArgsD look.signature κs) where
  pub look_agrees : (r r' : ResD look.signature κs) (s s' : AtExit (ended_of 1 look_kinds.ps look_kinds.r) κs) →
      look_reads.Post κs a r s → look_reads.Post κs a r' s' → r ≡ r'
  look_agrees r r' s s' p q = told_same r r' (same p q)
