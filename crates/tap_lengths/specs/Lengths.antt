-- The taps of a pipe's sections and their intermediate lengths (clause 4.10.7). A section is a row of table 19.
-- Assumes nothing.
use Rattle.std.specs.Prelude.{ℕ, ◌+◌, ◌-◌, ◌*◌, List, [], ◌∷◌, ltb}
use Rattle.ground.specs.Choice.{choose}
use Rattle.description.specs.Rows.{total}
use Rattle.description.specs.Rules.{taps}
use Rattle.description.specs.Fields.{tap_diff, gap_width}

-- the taps of all sections together
abbrev pub tap_total : List (List ℕ) → ℕ
tap_total l = total taps l

-- Intermed_Len of tap k, counted over these sections, which follow one whose last tap has a length:
-- Intermed_Len[i][j] = Intermed_Len[i-1][Num_Taps[i-1]-1] + Gap_Width[i] + j x Tap_Diff[i]; behind the last tap the length stays
unfoldable pub length_after : ℕ → List (List ℕ) → ℕ → ℕ
length_after last [] k = last
length_after last (s ∷ l) k =
    choose (ltb k (taps s)) (last + gap_width s + k * tap_diff s) (length_after (last + gap_width s + (taps s - 1) * tap_diff s) l (k - taps s))

-- of all sections: for the first one the first two terms are dropped
unfoldable pub intermed_len : List (List ℕ) → ℕ → ℕ
intermed_len [] k = 0
intermed_len (s ∷ l) k = choose (ltb k (taps s)) (k * tap_diff s) (length_after ((taps s - 1) * tap_diff s) l (k - taps s))
