-- What the mixer's own promise says of the bits of a codeword.
-- Assumes nothing.
use mathlib.Core.Path.{◌≡◌}
use contract.Lifetimes.{Lfts}
use borrow.Fn.World.{ArgsD, ResD}
use borrow.Fn.Kinds.{ended_of}
use denote.Triple.Clauses.{AtExit}
use Rattle.ground.specs.Refusals.{status}
use Rattle.mixer.specs.Wanted.{Moved}
use Rattle.mixer.proofs.Unmixes.{call_moves}
use Rattle.mixer.specs.contracts.mix as mix
use Rattle.mixer.proofs.mix.Kinds as mix_kinds
use Rattle.mixer.proofs.mix.Reads as mix_reads

-- after a call mix(pattern, codeword, out) that answered 0 each bit of the codeword stands at its place
pub mix_moves : (κs : Lfts 2) (a : ArgsD mix.signature κs) (r : ResD mix.signature κs) (s : AtExit (ended_of 2 mix_kinds.ps mix_kinds.r) κs)
    → mix_reads.Post κs a r s → status r ≡ 0 → Moved a.0 a.1.0.now s.1.1.0.now
mix_moves κs a r s p z = call_moves a.0 a.1.0.now a.1.1.0.now s.1.1.0.now (status r) p z
