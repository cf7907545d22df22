-- What functions inside this crate ask and promise; no public promise cites it.
-- Assumes nothing.
use Rattle.std.specs.Prelude.{ℕ, ◌+◌, ◌*◌, ◌/◌, ◌%◌, ◌≤◌, ◌<◌, ◌≡◌, Bool, List, [], ◌∷◌, ltb, leb, eqb, length, get_or}
use Rattle.ground.specs.Choice.{choose, either}
use Rattle.bits.specs.Places.{number}
use Rattle.wide.specs.Held.{place_of, Held}
use Rattle.wide.specs.declared.Wide.{Wide}
use Rattle.rows.specs.Spelt.{row_pair}
use Rattle.order.specs.Order.{parameter, address, kept, order}
use Rattle.order.specs.Rows.{row_address}

-- there are blocks of so many bits
abbrev pub is_block : ℕ → Bool
is_block N = either (eqb N 12282) (eqb N 762)

-- half the rows of a block of N bits
unfoldable pub half_of : ℕ → ℕ
half_of N = choose (eqb N 12282) 256 16

-- the first bits of the pairs of the row j
abbrev pub row_bits : ℕ → List ℕ → ℕ → ℕ
row_bits N d j = number (λ t. row_pair (parameter N) d j t % 64) 0 24

-- a list holds m rows, each with the row half of all rows on
pub record Listed (N : ℕ) (d : List ℕ) (rows : List (List ℕ)) (m : ℕ) : Type 0 where
  pub row : (i : ℕ) → i < m → get_or rows i [] ≡ row_bits N d (i + 1) ∷ row_bits N d (half_of N + i + 1) ∷ []

-- ---- the sink
-- the row j is cut short: the address of its last column but one is behind the block
unfoldable pub short_at : ℕ → ℕ → Bool
short_at N j = leb N (row_address (parameter N) j 29)

-- the bits of a row, and how many, where it is cut short and where it is not
abbrev pub row_value : Bool → ℕ → ℕ
row_value t v = choose t (v / 4 * 2 + v % 2) v

abbrev pub row_width : Bool → ℕ
row_width t = choose t 23 24

-- the bit that is read at the period p, by the first bits of the pairs, and zeros behind the block
unfoldable pub read_bit : ℕ → List ℕ → ℕ → ℕ
read_bit N d p = choose (ltb p N) (get_or d (get_or (order N) p 0) 0 % 64) 0

-- the sink stands behind i rows, and what it stored are whole words of 32 bits
pub record Behind (N : ℕ) (s : Wide) (i : ℕ) : Type 0 where
  pub room : s.used < 32
  pub words : s.at % 4 ≡ 0
  pub at : place_of s ≡ length (kept (address (parameter N)) N (32 * i))

-- i rows went into a sink that stood at the start of zeros: it holds what is read of the pairs, and the bytes behind it are zeros
pub record Gathering (N : ℕ) (d out : List ℕ) (s : Wide) (i : ℕ) : Type 0 where
  pub place : Behind N s i
  pub len : length out ≡ 1536
  pub behind : (j : ℕ) → place_of s ≤ 8 * j → get_or out j 0 ≡ 0
  pub held : Held (read_bit N d) out s

-- what is read of the pairs is packed
pub record Gathered (N : ℕ) (d out : List ℕ) : Type 0 where
  pub len : length out ≡ 1536
  pub bytes : (k : ℕ) → k < 1536 → get_or out k 0 ≡ number (read_bit N d) (8 * k) 8
