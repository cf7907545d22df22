-- Theorems about the functions' own promises: two preambles of opposite choices differ in every bit, and each is balanced.
-- Assumes nothing.
use mathlib.Core.Bool.{not}
use mathlib.Core.Path.{◌≡◌}
use contract.Lifetimes.{Lfts}
use borrow.Fn.World.{ArgsD, ResD}
use borrow.Fn.Kinds.{ended_of}
use denote.Triple.Clauses.{AtExit}
use Rattle.ground.specs.Refusals.{status}
use Rattle.preamble.specs.Alternates.{Opposite, Balanced}
use Rattle.preamble.proofs.Alternates.{left_balanced, left_opposite}
use Rattle.preamble.specs.contracts.write as write
use Rattle.preamble.proofs.write.Kinds as write_kinds
use Rattle.preamble.proofs.write.Reads as write_reads

-- after a call write(inverted, out) that answered 0
module _ (κs : Lfts 1) (a : ArgsD write.signature κs) (r : ResD write.signature κs) (s : AtExit (ended_of 1 write_kinds.ps write_kinds.r) κs)
    (did : write_reads.Post κs a r s) (zero : status r ≡ 0) where
  -- the buffer has as many ones as zeros
  pub write_balanced : Balanced s.1.0.now
  write_balanced = left_balanced a.0 a.1.0.now s.1.0.now (status r) did zero

  -- and differs in all 256 bits from the buffer of a call with the opposite choice that answered 0
  pub writes_opposite : (κt : Lfts 1) (b : ArgsD write.signature κt) (q : ResD write.signature κt) (t : AtExit (ended_of 1 write_kinds.ps write_kinds.r) κt)
      → write_reads.Post κt b q t → status q ≡ 0 → b.0 ≡ not a.0 → Opposite s.1.0.now t.1.0.now
  writes_opposite κt b q t p z e =
      left_opposite a.0 b.0 a.1.0.now s.1.0.now b.1.0.now t.1.0.now (status r) (status q) did zero p z e
