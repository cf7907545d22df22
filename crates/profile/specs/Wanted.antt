-- What is wanted of a profile: the propositions that are proved.
-- Assumes nothing.
use Rattle.std.specs.Prelude.{ℕ, ◌+◌, ◌*◌, ◌/◌, ◌%◌, ◌≤◌, ◌<◌, ◌≡◌, false, List, length, get_or}
use Rattle.ground.specs.Moves.{MovesOnce}
use Rattle.description.specs.Rows.{Each, Row}
use Rattle.description.specs.Fields.{table16, table19, pipe_width}
use Rattle.description.specs.Description.{Pipe}
use Rattle.description.specs.Rules.{PipeKeeps}
use Rattle.slots.specs.Disperser.{tap_delay, tap_delay_rec}
use Rattle.tap_lengths.specs.Lengths.{tap_total}
use Rattle.profile.specs.Profile.{by_columns, flipped, profile_of}
use Rattle.profile.specs.Lent.{lent_fields, lent_sections, profile_fault}

-- at each place the receiver's taps and ours add up to the greatest delay
abbrev pub AddUp : Type 0
AddUp = (pipe : List ℕ) (sections : List (List ℕ)) (k : ℕ)
    → tap_delay_rec (profile_of pipe sections) k + tap_delay (profile_of pipe sections) k ≡ (profile_of pipe sections).greatest

-- which is at most 6,160
abbrev pub AtMost : Type 0
AtMost = (pipe : List ℕ) (sections : List (List ℕ)) → Row table16 pipe → Each (Row table19) sections → length sections ≤ 8 → tap_total sections ≡ 32
    → (profile_of pipe sections).greatest ≤ 6160

-- so it is for every pipe that is not refused
abbrev pub LentAtMost : Type 0
LentAtMost = (l : List ℕ) → profile_fault l ≡ false → (profile_of (lent_fields l) (lent_sections l)).greatest ≤ 6160

-- and for every pipe in use of a description that keeps the rules
abbrev pub KeptAtMost : Type 0
KeptAtMost = (p : Pipe) → PipeKeeps p → 0 < pipe_width p.fields → (profile_of p.fields p.sections).greatest ≤ 6160

-- the re-ordering, flipped or not, moves each of the 32 lengths exactly once: length j comes to place 4 (j mod 8) + j / 8, or to that from the end
abbrev pub from_columns : ℕ → ℕ
from_columns j = 4 * (j % 8) + j / 8

abbrev pub Reordered : Type 0
Reordered = (inv : ℕ) → MovesOnce 32 (λ k. by_columns (flipped inv k)) (λ j. flipped inv (from_columns j))

-- of the 33 numbers that a call hands out each of the first 32 is at most the last one, and that is at most 6,160
pub record Bounded (numbers : List ℕ) : Type 0 where
  pub all : length numbers ≡ 33
  pub within : (k : ℕ) → k < 32 → get_or numbers k 0 ≤ get_or numbers 32 0
  pub most : get_or numbers 32 0 ≤ 6160
