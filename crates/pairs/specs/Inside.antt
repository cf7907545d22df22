-- What functions inside this crate ask and promise; no public promise leads here.
-- Assumes nothing.
use Rattle.std.specs.Prelude.{ℕ, zero, suc, ◌+◌, ◌*◌, ◌/◌, ◌%◌, ◌^◌, ◌≤◌, ◌<◌, ◌≡◌, List, length, get_or}
use Rattle.pairs.specs.Pairs.{couple}

-- the first 1,536 bytes of a word, and zeros behind a shorter word
pub record Copied (w l : List ℕ) : Type 0 where
  pub len : length l ≡ 1536
  pub bytes : (k : ℕ) → k < 1536 → get_or l k 0 ≡ get_or w k 0

-- ---- the bits of a word, a byte to a bit
-- the number whose n digits in base 256 are f 0, f 1, .., the first highest
unfoldable pub spelt : (ℕ → ℕ) → ℕ → ℕ
spelt f zero = 0
spelt f (suc n) = spelt f n * 256 + f n

-- the bits of a byte as digits in base 256, the top bit lowest
unfoldable pub spread : ℕ → ℕ
spread b = spelt (λ k. b / 2 ^ k % 2) 8

-- n bytes f 0, f 1, .. stand from a place on, and the others are as they were
pub record Stored (l : List ℕ) (at : ℕ) (f : ℕ → ℕ) (l' : List ℕ) (n : ℕ) : Type 0 where
  pub len : length l' ≡ length l
  pub here : (k : ℕ) → k < n → get_or l' (at + k) 0 ≡ f k
  pub before : (k : ℕ) → k < at → get_or l' k 0 ≡ get_or l k 0
  pub behind : (k : ℕ) → at + n ≤ k → get_or l' k 0 ≡ get_or l k 0

-- the bits of y bytes of the first half of a segment stand with those of its second half, and the segments before are as they were
pub record Coupled (w : List ℕ) (from half : ℕ) (d d' : List ℕ) (y : ℕ) : Type 0 where
  pub len : length d' ≡ length d
  pub first : (k : ℕ) → k < 8 * y → get_or d' (8 * from + k) 0 ≡ couple w (8 * from + k) (8 * (from + half) + k)
  pub second : (k : ℕ) → k < 8 * y → get_or d' (8 * (from + half) + k) 0 ≡ couple w (8 * (from + half) + k) (8 * from + k)
  pub before : (k : ℕ) → k < 8 * from → get_or d' k 0 ≡ get_or d k 0
