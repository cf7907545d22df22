-- What a wide sink holds, for contracts inside the crates that fill one; no public promise leads here.
-- Assumes nothing.
use Rattle.std.specs.Prelude.{ℕ, ◌+◌, ◌*◌, ◌%◌, ◌^◌, ◌≤◌, ◌<◌, ◌≡◌, List, length, get_or}
use Rattle.bits.specs.Places.{number}
use Rattle.wide.specs.declared.Wide.{Wide}

-- the next bit's place
abbrev pub place_of : Wide → ℕ
place_of s = 8 * s.at + s.used

-- the bytes before the sink's and the bits in it are those of f
pub record Held (f : ℕ → ℕ) (out : List ℕ) (s : Wide) : Type 0 where
  pub bytes : (k : ℕ) → k < s.at → get_or out k 0 ≡ number f (8 * k) 8
  pub part : s.acc % 2 ^ s.used ≡ number f (8 * s.at) s.used

-- the k bits of v went in: whatever f the sink held before, it holds it k places further, where v is the number of those bits; the bytes behind it are as they were
pub record Put (v k : ℕ) (out : List ℕ) (s : Wide) (out' : List ℕ) (r : Wide) : Type 0 where
  pub room : r.used < 32
  pub moved : place_of r ≡ place_of s + k
  pub step : r.at % 4 ≡ s.at % 4
  pub len : length out' ≡ length out
  pub behind : (j : ℕ) → r.at ≤ j → get_or out' j 0 ≡ get_or out j 0
  pub keeps : (f : ℕ → ℕ) → ((j : ℕ) → f j < 2) → Held f out s → v ≡ number f (place_of s) k → Held f out' r
