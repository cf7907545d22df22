-- `mixer::mix_bits` meets its contract: after k bytes each has its eight bits, and the next one's place is known. Assumes nothing.
use Prim.Native.Nat.{ℕ, ◌*◌, ◌%◌, ◌<◌}
use mathlib.Core.Path.{◌≡◌}
use lib.ListN.{get_or}
use Rattle.bits.specs.Places.{bit_at, number}
use Rattle.mixer.specs.Mixer.{mixed_from}
use Rattle.mixer.proofs.mix_bits.Given as goal

abbrev pub invariant-loop-byte : goal.invariant-loop-byte
invariant-loop-byte l =
    ((j : ℕ) → j < l.byte-index → get_or l.out j 0 ≡ number (λ i. bit_at l.codeword (mixed_from l.inc l.len i)) (8 * j) 8) × (l.at ≡ l.inc * (8 * l.byte-index) % l.len) × (l.at < l.len)
