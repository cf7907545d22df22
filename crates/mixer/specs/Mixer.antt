-- The mixer (clause 4.5): b[i] = a[(CILM_Inc x i) mod Codeword_Len].
-- Assumes nothing.
use Rattle.std.specs.Prelude.{ℕ, ◌*◌, ◌/◌, ◌%◌, Bool, List, [], ◌∷◌, eqb}
use Rattle.ground.specs.Choice.{choose, both}
use Rattle.bits.specs.Places.{bit_at, packed}
use Rattle.patterns.specs.Rates.{Rate, over, rate_of}
use Rattle.patterns.specs.Sent.{code_length}

-- a column of table 12
pub record Column : Type 0 where
  pub rate : Rate
  pub codeword_len : ℕ
  pub inc : ℕ

abbrev pub column : Rate → ℕ → ℕ → Column
column r l i = record { rate = r; codeword_len = l; inc = i }

unfoldable pub table12 : List Column
table12 =
    column (over 1 5) 61440 247 ∷
    column (over 2 9) 55296 245 ∷
    column (over 1 4) 49152 221 ∷
    column (over 2 7) 43008 197 ∷
    column (over 3 10) 40960 209 ∷
    column (over 1 3) 36864 185 ∷
    column (over 3 8) 32768 179 ∷
    column (over 2 5) 30720 167 ∷
    column (over 3 7) 28672 167 ∷
    column (over 1 2) 24576 157 ∷
    column (over 3 5) 20480 149 ∷
    column (over 2 3) 18432 125 ∷
    column (over 3 4) 16384 139 ∷
    column (over 6 7) 14336 113 ∷ []

abbrev pub same_rate : Rate → Rate → Bool
same_rate r s = both (eqb r.num s.num) (eqb r.den s.den)

-- the column of a rate; all zero where the table has none
unfoldable pub column_of : List Column → Rate → Column
column_of [] r = column (over 0 0) 0 0
column_of (c ∷ l) r = choose (same_rate c.rate r) c (column_of l r)

-- CILM_Inc of a pattern and a block of n bits: 61 for the signalling word's 762, else by table 12
unfoldable pub increment : ℕ → ℕ → ℕ
increment p n = choose (eqb n 762) 61 (column_of table12 (rate_of p)).inc

-- the bit of the codeword that becomes bit i of the mixed codeword
abbrev pub mixed_from : ℕ → ℕ → ℕ → ℕ
mixed_from inc len i = inc * i % len

-- a codeword mixed
unfoldable pub mixed : ℕ → ℕ → List ℕ → List ℕ
mixed p n c = packed (λ i. bit_at c (mixed_from (increment p n) (code_length p n) i)) (code_length p n / 8)
