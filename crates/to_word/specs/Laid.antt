-- What the steps of laying out a word ask and leave. No public promise cites it.
-- Assumes nothing.
use Rattle.std.specs.Prelude.{ℕ, ◌+◌, ◌*◌, ◌%◌, ◌≤◌, ◌<◌, ◌≡◌, List, ◌++◌, length, get_or, replicate}
use Rattle.bits.specs.Lists.{pack, Below}
use Rattle.bits.specs.Places.{bit_at, number, field_at}
use Rattle.wide.specs.Held.{place_of, Held}
use Rattle.wide.specs.declared.Wide.{Wide}
use Rattle.description.specs.Rules.{size}
use Rattle.description.specs.Layout.{sealed}
use Rattle.description.specs.Sheet.{form1, sheet_end}

-- a sink at a place of the bytes w: it holds whatever f the bits before the place are
pub record Waits (w : List ℕ) (place : ℕ) (s : Wide) : Type 0 where
  pub room : s.used < 32
  pub stands : place_of s ≡ place
  pub step : s.at % 4 ≡ 0
  pub holds : (f : ℕ → ℕ) → ((j : ℕ) → f j < 2) → ((j : ℕ) → j < place → bit_at w j ≡ f j) → Held f w s

-- d sections of a sheet, so far apart, put at a place of the word out, and zeros behind them: the word is that of any 768 bits x that begin with what stands
-- before the place, go on with the sections and are zero behind them
abbrev pub Placed : List ℕ → ℕ → ℕ → ℕ → ℕ → List ℕ → List ℕ → Type 0
Placed sh at apart d place out out' =
    (x : List ℕ) → Below 2 x → length x ≡ 768 → ((j : ℕ) → j < place → bit_at out j ≡ get_or x j 0)
    → ((k : ℕ) → k < d → field_at sh (at + apart * k) 12 ≡ number (λ j. get_or x j 0) (place + 12 * k) 12)
    → ((j : ℕ) → place + 12 * d ≤ j → get_or x j 0 ≡ 0) → out' ≡ pack 96 x

-- the CRC put behind 750 bits x
abbrev pub Seals : List ℕ → List ℕ → Type 0
Seals w w' = (x : List ℕ) → Below 2 x → length x ≡ 750 → w ≡ pack 96 (x ++ replicate 18 0) → w' ≡ pack 96 (sealed x)

-- a sheet as long as its counts say, which are within 750 bits
pub record Stated (sh : List ℕ) (p s d : ℕ) : Type 0 where
  pub sheet : length sh ≡ sheet_end form1 p s d
  pub fits : size p s d ≤ 750
