-- What is claimed of bitwise sums of infowords (02, 2026-04), of the definitions.
-- Assumes nothing.
use Rattle.std.specs.Prelude.{ℕ, ◌/◌, ◌≡◌, List, length, replicate}
use Rattle.bits.specs.Places.{field_at}
use Rattle.bits.specs.Sums.{summed}
use Rattle.patterns.specs.Blocks.{Coded}
use Rattle.patterns.specs.Sent.{code_length}
use Rattle.turbo.specs.Encode.{block_of, codeword, refusal}

-- the sum of v and w is an infoword of n bits with zero spare bits, and its codeword, tail included, is the sum of their codewords
pub record Adds (p n : ℕ) (v w : List ℕ) : Type 0 where
  pub block : block_of (summed v w) ≡ n
  pub spare : field_at (summed v w) n 6 ≡ 0
  pub codewords : codeword p n (summed v w) ≡ summed (codeword p n v) (codeword p n w)

-- so it is of any two infowords whose spare bits are zero: under each pattern with the block of 12,282 bits, and under pattern 0 with that of 762
abbrev pub SumsCoded : Type 0
SumsCoded =
    (p n : ℕ) → Coded p n → (v w : List ℕ) → block_of v ≡ n → block_of w ≡ n
    → field_at v n 6 ≡ 0 → field_at w n 6 ≡ 0
    → Adds p n v w

-- the sum of two infowords of one length is accepted where both are
abbrev pub SumsAccepted : Type 0
SumsAccepted = (p bytes : ℕ) (v w : List ℕ) → length v ≡ length w → refusal p v bytes ≡ 0 → refusal p w bytes ≡ 0 → refusal p (summed v w) bytes ≡ 0

-- the codeword of a word of zeros is of zeros
abbrev pub ZerosCoded : Type 0
ZerosCoded = (p n len : ℕ) → codeword p n (replicate len 0) ≡ replicate (code_length p n / 8) 0
