-- Of every public function of this crate: any two outcomes that its promise allows agree.
-- Assumes nothing.
use mathlib.Core.Path.{◌≡◌, ap}
use contract.Lifetimes.{Lfts}
use borrow.Fn.World.{ArgsD, ResD}
use borrow.Fn.Kinds.{ended_of}
use denote.Triple.Clauses.{AtExit}
use Rattle.ground.proofs.Refusals.{agree_status}
use Rattle.pipe.specs.contracts.write as write
use Rattle.pipe.proofs.write.Kinds as write_kinds
use Rattle.pipe.proofs.write.Reads as write_reads

module _ (κs : Lfts 4) (a : ArgsD write.signature κs) where
  pub write_agrees : (r r' : ResD write.signature κs) (s s' : AtExit (ended_of 4 write_kinds.ps write_kinds.r) κs) →
      write_reads.Post κs a r s → write_reads.Post κs a r' s' → (r ≡ r') × (s.1.1.1.0.now ≡ s'.1.1.1.0.now) × (s.1.1.1.1.0.now ≡ s'.1.1.1.1.0.now)
  write_agrees r r' s s' p q =
      let e = agree_status p.0 q.0 in
      (e.0, ap (λ m. m.0) e.1, ap (λ m. m.1) e.1)
