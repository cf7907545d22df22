-- `parts::part` meets its contract: after i bytes v is the part of the i bytes. Assumes nothing.
use Prim.Native.Nat.{◌≤◌}
use mathlib.Core.Path.{◌≡◌}
use Rattle.parity.specs.Steps.{run_of}
use Rattle.parts.proofs.part.Given as goal

abbrev pub invariant-loop-i : goal.invariant-loop-i
invariant-loop-i l = (l.i ≤ 376) × (l.v ≡ run_of l.word l.from l.i)
