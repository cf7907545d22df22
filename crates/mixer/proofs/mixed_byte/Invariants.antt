-- `mixer::mixed_byte` meets its contract: after i bits the number is that of the i bits, and the next one's place is known. Assumes nothing.
use Prim.Native.Nat.{◌+◌, ◌*◌, ◌%◌, ◌^◌, ◌<◌}
use mathlib.Core.Path.{◌≡◌}
use Rattle.bits.specs.Places.{bit_at, number}
use Rattle.mixer.proofs.mixed_byte.Given as goal

abbrev pub invariant-loop : goal.invariant-loop
invariant-loop l =
    (l.v ≡ number (λ k. bit_at l.codeword ((l.at + l.inc * k) % l.len)) 0 l.counter) × (l.v < 2 ^ l.counter) × (l.from ≡ (l.at + l.inc * l.counter) % l.len) × (l.from < l.len)
