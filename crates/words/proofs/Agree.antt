-- Of every public function of this crate: any two outcomes that its promise allows agree.
-- Assumes nothing.
use mathlib.Core.Path.{◌≡◌}
use contract.Lifetimes.{Lfts}
use borrow.Fn.World.{ArgsD, ResD}
use borrow.Fn.Kinds.{ended_of}
use denote.Triple.Clauses.{AtExit}
use Rattle.ground.proofs.Outcome.{agree}
use Rattle.words.specs.contracts.line as line
use Rattle.words.proofs.line.Kinds as line_kinds
use Rattle.words.proofs.line.Reads as line_reads_lem

module _ (κs : Lfts 3) (a : ArgsD line.signature κs) where
  pub line_agrees : (r r' : ResD line.signature κs) (s s' : AtExit (ended_of 3 line_kinds.ps line_kinds.r) κs) →
      line_reads_lem.Post κs a r s → line_reads_lem.Post κs a r' s' → (r ≡ r') × (s.0.now ≡ s'.0.now)
  line_agrees r r' s s' p q = agree p q
