-- The disperser's profile of a pipe (clause 4.10.7), from the fields of its record (table 16) and its sections (table 19).
-- Assumes nothing.
use Rattle.std.specs.Prelude.{ℕ, ◌+◌, ◌-◌, ◌*◌, ◌/◌, ◌%◌, List, eqb}
use Rattle.ground.specs.Choice.{choose}
use Rattle.ground.specs.Table.{tab}
use Rattle.description.specs.Fields.{disperser_inv_flag, tap_diff_mult_int1, tap_diff_mult_fract116}
use Rattle.slots.specs.declared.Profile.{Profile}
use Rattle.tap_lengths.specs.Lengths.{intermed_len}

-- Tap_Length = Tap_Diff_Mult_Int x floor(Intermed_Len x Tap_Diff_Mult_Fract), where Tap_Diff_Mult_Int = Tap_Diff_Mult_Int_1 + 1
-- and Tap_Diff_Mult_Fract = Tap_Diff_Mult_Fract_1_16 + 0,0625, which is (the field + 1) sixteenths
unfoldable pub tap_length_by : ℕ → ℕ → ℕ → ℕ
tap_length_by int fract len = (int + 1) * (len * (fract + 1) / 16)

abbrev pub tap_length : List ℕ → ℕ → ℕ
tap_length pipe len = tap_length_by (tap_diff_mult_int1 pipe) (tap_diff_mult_fract116 pipe) len

-- written row by row into 4 rows of 8 columns, and read column by column: the element that is read k-th
abbrev pub by_columns : ℕ → ℕ
by_columns k = 8 * (k % 4) + k / 4

-- where Disperser_Inv_Flag is set the vector is flipped: element 0 for 31, 1 for 30, ..
unfoldable pub flipped : ℕ → ℕ → ℕ
flipped inv k = choose (eqb inv 0) k (31 - k)

-- Max_Delay: the length of the last tap of the last section
unfoldable pub max_delay : List ℕ → List (List ℕ) → ℕ
max_delay pipe sections = tap_length pipe (intermed_len sections 31)

-- the receiver's profile: Tap_Delay_Rec[0] to Tap_Delay_Rec[31], and Max_Delay
unfoldable pub profile_of : List ℕ → List (List ℕ) → Profile
profile_of pipe sections = record {
  taps = tab (λ k. tap_length pipe (intermed_len sections (by_columns (flipped (disperser_inv_flag pipe) k)))) 0 32;
  greatest = max_delay pipe sections;
}
