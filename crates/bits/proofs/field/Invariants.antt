-- `bits::field` meets its contract: after i bits the number is that of the i bits, and fits them. Assumes nothing.
use Prim.Native.Nat.{◌^◌, ◌<◌}
use mathlib.Core.Path.{◌≡◌}
use Rattle.bits.specs.Places.{bit_at, number}
use Rattle.bits.proofs.field.Given as goal

abbrev pub invariant-loop-i : goal.invariant-loop-i
invariant-loop-i l = (l.v ≡ number (bit_at l.s) l.at l.i) × (l.v < 2 ^ l.i)
