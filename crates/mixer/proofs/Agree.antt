-- Of every public function of this crate: any two outcomes that its promise allows agree.
-- Assumes nothing.
use mathlib.Core.Path.{◌≡◌}
use contract.Lifetimes.{Lfts}
use borrow.Fn.World.{ArgsD, ResD}
use borrow.Fn.Kinds.{ended_of}
use denote.Triple.Clauses.{AtExit}
use Rattle.ground.proofs.Refusals.{agree_status}
use Rattle.mixer.specs.contracts.mix as mix
use Rattle.mixer.proofs.mix.Kinds as mix_kinds
use Rattle.mixer.proofs.mix.Reads as mix_reads

module _ (κs : Lfts 2) (a : ArgsD mix.signature κs) where
  pub mix_agrees : (r r' : ResD mix.signature κs) (s s' : AtExit (ended_of 2 mix_kinds.ps mix_kinds.r) κs) →
      mix_reads.Post κs a r s → mix_reads.Post κs a r' s' → (r ≡ r') × (s.1.1.0.now ≡ s'.1.1.0.now)
  mix_agrees r r' s s' p q = agree_status p q
