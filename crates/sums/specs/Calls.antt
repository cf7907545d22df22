-- What is claimed of three calls of an encoder: of two infowords, and of their bitwise sum (02, 2026-04).
-- Assumes nothing.
use Rattle.std.specs.Prelude.{ℕ, ◌/◌, ◌≡◌, List, length, replicate}
use Rattle.bits.specs.Places.{field_at}
use Rattle.bits.specs.Sums.{summed}
use Rattle.patterns.specs.Blocks.{Coded}
use Rattle.patterns.specs.Sent.{code_length}
use Rattle.turbo.specs.Encode.{block_of}

-- a call encode(pattern, infoword, lent), what it answered, and what it left in the lent codeword
pub record Call : Type 0 where
  pub pattern : ℕ
  pub infoword : List ℕ
  pub lent : List ℕ
  pub answer : ℕ
  pub left : List ℕ

-- three calls under one pattern, for words of one length and codewords of one length, the third word being the sum of the first two
pub record Summing (a b c : Call) : Type 0 where
  pub pattern_b : b.pattern ≡ a.pattern
  pub pattern_c : c.pattern ≡ a.pattern
  pub words : length a.infoword ≡ length b.infoword
  pub sum : c.infoword ≡ summed a.infoword b.infoword
  pub lent_b : length b.lent ≡ length a.lent
  pub lent_c : length c.lent ≡ length a.lent

-- where the first two answered 0, so did the third, and it left the sum of what they left
abbrev pub SumAnswered : Call → Call → Call → Type 0
SumAnswered a b c = Summing a b c → a.answer ≡ 0 → b.answer ≡ 0 → (c.answer ≡ 0) × (c.left ≡ summed a.left b.left)

-- a call with a block of n bits that is coded under its pattern, and a codeword of the length that this has
pub record Fits (n : ℕ) (a : Call) : Type 0 where
  pub coded : Coded a.pattern n
  pub block : block_of a.infoword ≡ n
  pub lent : length a.lent ≡ code_length a.pattern n / 8

-- where the spare bits of the first two words are zero, all three answered 0, and the third left the sum of what the first two left
abbrev pub SumSent : Call → Call → Call → Type 0
SumSent a b c =
    (n : ℕ) → Summing a b c → Fits n a → field_at a.infoword n 6 ≡ 0 → field_at b.infoword n 6 ≡ 0
    → (a.answer ≡ 0) × (b.answer ≡ 0) × (c.answer ≡ 0) × (c.left ≡ summed a.left b.left)

-- a word of zeros was coded as zeros
abbrev pub ZerosSent : Call → Type 0
ZerosSent a = (n : ℕ) → Fits n a → a.infoword ≡ replicate (length a.infoword) 0 → (a.answer ≡ 0) × (a.left ≡ replicate (length a.lent) 0)
