-- The receiver's taps and ours add up to the greatest delay, which is at most 6,160.
-- Assumes nothing.
use Prim.Native.Nat.{ℕ, ◌+◌, ◌-◌, ◌*◌, ◌/◌, ◌%◌, ◌≤◌, ◌<◌}
use mathlib.Core.Path.{◌≡◌, refl, ap, ◌∙◌}
use mathlib.Core.Bool.{Bool, true, false}
use mathlib.Core.List.{List}
use native.Mathlib.Nat.{mod-lt, mul-le-mul, mul-le-mul_left, mul-le-mul_right, zero-add}
use native.Mathlib.Omega.{arith}
use lib.Dec.{eqb, eqb→eq}
use lib.ListN.{length}
use Rattle.ground.specs.Choice.{choose}
use Rattle.ground.specs.Moves.{MovesOnce}
use Rattle.ground.proofs.Choice.{choose_most}
use Rattle.ground.proofs.Table.{get_or_tab, at_all}
use Rattle.description.specs.Rows.{Row}
use Rattle.description.proofs.Rows.{row_at_lem}
use Rattle.description.specs.Description.{own_sections}
use Rattle.description.specs.Fields.{table16, pipe_width, num_disperser_sections1, disperser_inv_flag, tap_diff_mult_int1, tap_diff_mult_fract116}
use Rattle.slots.specs.Disperser.{tap_delay_rec}
use Rattle.slots.proofs.Delays.{delays_add}
use Rattle.tap_lengths.specs.Lengths.{intermed_len}
use Rattle.tap_lengths.proofs.Growing.{grows, intermed_most}
use Rattle.profile.specs.Profile.{tap_length_by, tap_length, by_columns, flipped, max_delay, profile_of}
use Rattle.profile.specs.Wanted.{AddUp, AtMost, KeptAtMost, Reordered, from_columns}

tap_grows : (pipe : List ℕ) (x y : ℕ) → x ≤ y → tap_length pipe x ≤ tap_length pipe y
unfolding tap_length_by
tap_grows pipe x y h =
    let m : x * (tap_diff_mult_fract116 pipe + 1) ≤ y * (tap_diff_mult_fract116 pipe + 1) = mul-le-mul_right (tap_diff_mult_fract116 pipe + 1) h in
    let d : x * (tap_diff_mult_fract116 pipe + 1) / 16 ≤ y * (tap_diff_mult_fract116 pipe + 1) / 16 = omega arith in
    mul-le-mul_left (tap_diff_mult_int1 pipe + 1) d

-- ---- each tap of the receiver is at most the greatest delay

place_most : (inv k : ℕ) → k < 32 → by_columns (flipped inv k) ≤ 31
unfolding flipped
place_most inv k h = choose_most by_columns 31 (eqb inv 0) k (31 - k) (omega arith) (omega arith)

tap_is : (pipe : List ℕ) (sections : List (List ℕ)) (k : ℕ)
    → tap_delay_rec (profile_of pipe sections) k ≡ tap_length pipe (intermed_len sections (by_columns (flipped (disperser_inv_flag pipe) (k % 32))))
unfolding tap_delay_rec profile_of
tap_is pipe sections k =
    get_or_tab (λ j. tap_length pipe (intermed_len sections (by_columns (flipped (disperser_inv_flag pipe) j)))) 0 0 32 (k % 32) (mod-lt k (omega arith))
    ∙ ap (λ (j : ℕ). tap_length pipe (intermed_len sections (by_columns (flipped (disperser_inv_flag pipe) j)))) (zero-add (k % 32))

greatest_is : (pipe : List ℕ) (sections : List (List ℕ)) → (profile_of pipe sections).greatest ≡ tap_length pipe (intermed_len sections 31)
unfolding profile_of max_delay
greatest_is pipe sections = refl

pub tap_most : (pipe : List ℕ) (sections : List (List ℕ)) (k : ℕ) → tap_delay_rec (profile_of pipe sections) k ≤ (profile_of pipe sections).greatest
tap_most pipe sections k =
    let at : ℕ = by_columns (flipped (disperser_inv_flag pipe) (k % 32)) in
    let p : at ≤ 31 = place_most (disperser_inv_flag pipe) (k % 32) (mod-lt k (omega arith)) in
    let g : tap_length pipe (intermed_len sections at) ≤ tap_length pipe (intermed_len sections 31) =
    tap_grows pipe (intermed_len sections at) (intermed_len sections 31) (grows sections at 31 p) in
    let e : tap_delay_rec (profile_of pipe sections) k ≡ tap_length pipe (intermed_len sections at) = tap_is pipe sections k in
    let f : (profile_of pipe sections).greatest ≡ tap_length pipe (intermed_len sections 31) = greatest_is pipe sections in
    omega arith

pub add_up : AddUp
add_up pipe sections k = delays_add (profile_of pipe sections) k (tap_most pipe sections k)

-- ---- how great the greatest delay can be

length_most : (pipe : List ℕ) (x : ℕ) → Row table16 pipe → x ≤ 385 → tap_length pipe x ≤ 6160
unfolding tap_length_by
length_most pipe x r h =
    let i : tap_diff_mult_int1 pipe < 16 = row_at_lem table16 pipe 7 r (omega arith) in
    let f : tap_diff_mult_fract116 pipe < 16 = row_at_lem table16 pipe 8 r (omega arith) in
    let a : tap_diff_mult_fract116 pipe + 1 ≤ 16 = omega arith in
    let m : x * (tap_diff_mult_fract116 pipe + 1) ≤ 385 * 16 = mul-le-mul h a in
    let d : x * (tap_diff_mult_fract116 pipe + 1) / 16 ≤ 385 = omega arith in
    let b : tap_diff_mult_int1 pipe + 1 ≤ 16 = omega arith in
    let t : (tap_diff_mult_int1 pipe + 1) * (x * (tap_diff_mult_fract116 pipe + 1) / 16) ≤ 16 * 385 = mul-le-mul b d in
    t

pub at_most : AtMost
at_most pipe sections r e l t =
    let g : tap_length pipe (intermed_len sections 31) ≤ 6160 = length_most pipe (intermed_len sections 31) r (intermed_most sections 31 e l t) in
    let f : (profile_of pipe sections).greatest ≡ tap_length pipe (intermed_len sections 31) = greatest_is pipe sections in
    omega arith

-- a pipe owns at most 8 sections
pub own_most : (f : List ℕ) → Row table16 f → own_sections f ≤ 8
unfolding own_sections
own_most f r =
    let d : num_disperser_sections1 f < 8 = row_at_lem table16 f 3 r (omega arith) in
    choose_most (λ (x : ℕ). x) 8 (eqb (pipe_width f) 0) 0 (num_disperser_sections1 f + 1) (omega arith) (omega arith)

pub kept_at_most : KeptAtMost
kept_at_most p k h =
    let o : own_sections p.fields ≤ 8 = own_most p.fields k.fields in
    let e : length p.sections ≡ own_sections p.fields = k.disperser in
    at_most p.fields p.sections k.fields k.sections (omega arith) (k.tapped h)

-- ---- the re-ordering

once_by : (t : Bool) → MovesOnce 32 (λ k. by_columns (choose t k (31 - k))) (λ k. choose t (from_columns k) (31 - from_columns k))
once_by true = record {
  inside = λ i h. omega arith;
  back_inside = λ i h. omega arith;
  there = λ i h. eqb→eq (from_columns (by_columns i)) i (at_all (λ k. eqb (from_columns (by_columns k)) k) 32 tt i h);
  again = λ i h. eqb→eq (by_columns (from_columns i)) i (at_all (λ k. eqb (by_columns (from_columns k)) k) 32 tt i h);
}
once_by false = record {
  inside = λ i h. omega arith;
  back_inside = λ i h. omega arith;
  there = λ i h. eqb→eq (31 - from_columns (by_columns (31 - i))) i (at_all (λ k. eqb (31 - from_columns (by_columns (31 - k))) k) 32 tt i h);
  again = λ i h. eqb→eq (by_columns (31 - (31 - from_columns i))) i (at_all (λ k. eqb (by_columns (31 - (31 - from_columns k))) k) 32 tt i h);
}

pub reordered : Reordered
unfolding flipped
reordered inv = once_by (eqb inv 0)
