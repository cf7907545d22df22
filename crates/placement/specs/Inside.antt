-- What functions inside this crate ask and promise; no public promise cites it.
-- Assumes nothing.
use Rattle.std.specs.Prelude.{ℕ, zero, suc, ◌+◌, ◌≤◌, ◌<◌, ◌≡◌, List, length, get_or, set, ℤ, pos}
use Rattle.ground.specs.Outcome.{Outcome}
use Rattle.patterns.specs.Rows.{digit, copies}
use Rattle.patterns.specs.Sent.{places, total}
use Rattle.held.specs.Held.{run}
use Rattle.placement.specs.Place.{held}

-- no symbol of a group is sent twice
abbrev pub Once : ℕ → Type 0
Once counts = (j : ℕ) → j < 5 → digit counts j < 2

-- the first j symbols of a group are placed, from the place k on, and the values are taken from a place on
unfoldable pub placed_group : List ℤ → ℕ → ℕ → List ℤ → ℕ → ℕ → Outcome ℕ (List ℤ)
placed_group values at counts lane k zero = record { answer = at; memory = lane }
placed_group values at counts lane k (suc j) =
    let o = placed_group values at counts lane k j in
    record { answer = o.answer + digit counts j; memory = set o.memory (k + j) (held (run values o.answer (digit counts j))) }

-- what placing into a lane of n data groups asks: a pattern, as many values as it sends, and the lane's length
pub record Placeable (p n : ℕ) (values lane : List ℤ) : Type 0 where
  pub pattern : p < 28
  pub some : 0 < n
  pub most : n ≤ 12282
  pub all : total (copies p n) (places n) ≡ length values
  pub room : length lane ≡ places n

-- each place below q holds the sum of its values, which stand behind those of the places before it; the next value's place is at
pub record Placed (p n : ℕ) (values lane : List ℤ) (at q : ℕ) : Type 0 where
  pub len : length lane ≡ places n
  pub next : at ≡ total (copies p n) q
  pub holds : (k : ℕ) → k < q → get_or lane k (pos 0) ≡ held (run values (total (copies p n) k) (copies p n k))
