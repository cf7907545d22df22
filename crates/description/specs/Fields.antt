-- The fields of the signalling word (clause 4.10.1.3): each table as the widths of its fields in the standard's order, and each field by its name,
-- with the bits at which it stands in its record. A name that ends in 1 or in Div2 is that of the field, from which the number meant is calculated.
-- Assumes nothing.
use Rattle.std.specs.Prelude.{ℕ, List, [], ◌∷◌, get_or}

-- table 15: parameters for the C-TS frame and the pipe multiplex, 56 bits
abbrev pub table15 : List ℕ
table15 = 4 ∷ 1 ∷ 11 ∷ 8 ∷ 1 ∷ 1 ∷ 22 ∷ 2 ∷ 2 ∷ 4 ∷ []

-- bits 0 to 3: Sig_Pipe_Ver
abbrev pub sig_pipe_ver : List ℕ → ℕ
sig_pipe_ver m = get_or m 0 0

-- bit 4: Reconfig_Flag
abbrev pub reconfig_flag : List ℕ → ℕ
reconfig_flag m = get_or m 1 0

-- bits 5 to 15: Event_Countdown
abbrev pub event_countdown : List ℕ → ℕ
event_countdown m = get_or m 2 0

-- bits 16 to 23: Operator_ID
abbrev pub operator_id : List ℕ → ℕ
operator_id m = get_or m 3 0

-- bit 24: Resync_Flag
abbrev pub resync_flag : List ℕ → ℕ
resync_flag m = get_or m 4 0

-- bit 25: Reschedule_Flag
abbrev pub reschedule_flag : List ℕ → ℕ
reschedule_flag m = get_or m 5 0

-- bits 26 to 47: Frame_Index
abbrev pub frame_index : List ℕ → ℕ
frame_index m = get_or m 6 0

-- bits 48 to 49: Max_Inter_Schedule_Period_Length_Frames_Div2_1
abbrev pub max_inter_schedule_period_div2 : List ℕ → ℕ
max_inter_schedule_period_div2 m = get_or m 7 0

-- bits 50 to 51: Config_Index
abbrev pub config_index : List ℕ → ℕ
config_index m = get_or m 8 0

-- bits 52 to 55: Num_Pipes_1: the number of payload pipes; the tail pipe follows them
abbrev pub num_pipes1 : List ℕ → ℕ
num_pipes1 m = get_or m 9 0

-- table 16: a payload pipe, 48 bits (damaged from bit 26 on: docs/DECISIONS.md, 11)
abbrev pub table16 : List ℕ
table16 = 6 ∷ 10 ∷ 5 ∷ 3 ∷ 1 ∷ 1 ∷ 10 ∷ 4 ∷ 4 ∷ 4 ∷ []

-- bits 0 to 5: Punct_Pat_ID
abbrev pub punct_pat : List ℕ → ℕ
punct_pat f = get_or f 0 0

-- bits 6 to 15: Pipe_Width_CUs
abbrev pub pipe_width : List ℕ → ℕ
pipe_width f = get_or f 1 0

-- bits 16 to 20: Num_STS_1
abbrev pub num_sts1 : List ℕ → ℕ
num_sts1 f = get_or f 2 0

-- bits 21 to 23: Num_Disperser_Sections_1
abbrev pub num_disperser_sections1 : List ℕ → ℕ
num_disperser_sections1 f = get_or f 3 0

-- bit 24: Disperser_Inv_Flag
abbrev pub disperser_inv_flag : List ℕ → ℕ
disperser_inv_flag f = get_or f 4 0

-- bit 25: Regrouping_Flag
abbrev pub regrouping_flag : List ℕ → ℕ
regrouping_flag f = get_or f 5 0

-- bits 26 to 35: Inter_Schedule_Period_Countdown_Slots
abbrev pub inter_schedule_period_countdown : List ℕ → ℕ
inter_schedule_period_countdown f = get_or f 6 0

-- bits 36 to 39: Tap_Diff_Mult_Int_1
abbrev pub tap_diff_mult_int1 : List ℕ → ℕ
tap_diff_mult_int1 f = get_or f 7 0

-- bits 40 to 43: Tap_Diff_Mult_Fract_1_16
abbrev pub tap_diff_mult_fract116 : List ℕ → ℕ
tap_diff_mult_fract116 f = get_or f 8 0

-- bits 44 to 47: Schedule_Index
abbrev pub schedule_index : List ℕ → ℕ
schedule_index f = get_or f 9 0

-- table 16b, captioned "Table 17": the tail pipe, 16 bits
abbrev pub table16b : List ℕ
table16b = 6 ∷ 1 ∷ 9 ∷ []

-- bits 0 to 5: Punct_Pat_ID
abbrev pub tail_punct_pat : List ℕ → ℕ
tail_punct_pat t = get_or t 0 0

-- bit 6: Codeword_Align_Flag
abbrev pub codeword_align_flag : List ℕ → ℕ
codeword_align_flag t = get_or t 1 0

-- bits 7 to 15: Pipe_Width_CUs
abbrev pub tail_width : List ℕ → ℕ
tail_width t = get_or t 2 0

-- table 18: a stream, 16 bits
abbrev pub table18 : List ℕ
table18 = 8 ∷ 8 ∷ []

-- bits 0 to 7: STS_ID
abbrev pub sts_id : List ℕ → ℕ
sts_id s = get_or s 0 0

-- bits 8 to 15: STS_Width_Slots_1
abbrev pub sts_width_slots1 : List ℕ → ℕ
sts_width_slots1 s = get_or s 1 0

-- table 19: a disperser section, 12 bits
abbrev pub table19 : List ℕ
table19 = 4 ∷ 3 ∷ 5 ∷ []

-- bits 0 to 3: Num_Taps_Div2_1
abbrev pub num_taps_div2 : List ℕ → ℕ
num_taps_div2 s = get_or s 0 0

-- bits 4 to 6: Tap_Diff
abbrev pub tap_diff : List ℕ → ℕ
tap_diff s = get_or s 1 0

-- bits 7 to 11: Gap_Width
abbrev pub gap_width : List ℕ → ℕ
gap_width s = get_or s 2 0
