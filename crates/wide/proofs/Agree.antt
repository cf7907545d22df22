-- Of every public function of this crate: any two outcomes that its promise allows agree.
-- Assumes nothing.
use mathlib.Core.Path.{◌≡◌}
use contract.Lifetimes.{Lfts}
use borrow.Fn.World.{ArgsD, ResD}
use borrow.Fn.Kinds.{ended_of}
use denote.Triple.Clauses.{AtExit}
use Rattle.ground.proofs.Outcome.{same, agree}
use Rattle.wide.specs.contracts.Wide.new as new
use Rattle.wide.proofs.Wide.new.Kinds as new_kinds
use Rattle.wide.proofs.Wide.new.Reads as new_reads
use Rattle.wide.specs.contracts.put as put
use Rattle.wide.proofs.put.Kinds as put_kinds
use Rattle.wide.proofs.put.Reads as put_reads

module _ (κs : Lfts 0) (a : ArgsD new.signature κs) where
  pub new_agrees : (r r' : ResD new.signature κs) (s s' : AtExit (ended_of 0 new_kinds.ps new_kinds.r) κs) →
      new_reads.Post κs a r s → new_reads.Post κs a r' s' → r ≡ r'
  new_agrees r r' s s' p q = same p q

module _ (κs : Lfts 1) (a : ArgsD put.signature κs) where
  pub put_agrees : (r r' : ResD put.signature κs) (s s' : AtExit (ended_of 1 put_kinds.ps put_kinds.r) κs) →
      put_reads.Post κs a r s → put_reads.Post κs a r' s' → (r ≡ r') × (s.0.now ≡ s'.0.now)
  put_agrees r r' s s' p q = agree p q
