-- Of every public function of this crate: any two outcomes that its promise allows agree.
-- Assumes nothing.
use mathlib.Core.Path.{◌≡◌, ap}
use contract.Lifetimes.{Lfts}
use borrow.Fn.World.{ArgsD, ResD}
use borrow.Fn.Kinds.{ended_of}
use denote.Triple.Clauses.{AtExit}
use Rattle.ground.proofs.Refusals.{agree_status}
use Rattle.ip_read.specs.contracts.read as read
use Rattle.ip_read.proofs.read.Kinds as read_kinds
use Rattle.ip_read.proofs.read.Reads as read_reads

module _ (κs : Lfts 4) (a : ArgsD read.signature κs) where
  pub read_agrees : (r r' : ResD read.signature κs) (s s' : AtExit (ended_of 4 read_kinds.ps read_kinds.r) κs) →
      read_reads.Post κs a r s → read_reads.Post κs a r' s'
      → (r ≡ r') × (s.1.0.now ≡ s'.1.0.now) × (s.1.1.0.now ≡ s'.1.1.0.now) × (s.1.1.1.0.now ≡ s'.1.1.1.0.now)
  read_agrees r r' s s' p q =
      let e = agree_status p q in
      (e.0, ap (λ x. x.0) e.1, ap (λ x. x.1) e.1, ap (λ x. x.2) e.1)
