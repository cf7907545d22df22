-- What comes of a pipe as it is lent.
-- Assumes nothing.
use Prim.Native.Nat.{ℕ, zero, suc, ◌+◌, ◌*◌, ◌≤◌, ◌<◌}
use mathlib.Core.Path.{◌≡◌, sym, ap, ap₂, ◌∙◌, subst}
use mathlib.Core.Bool.{false, not}
use mathlib.Core.List.{List, [], ◌∷◌, ◌++◌}
use native.Mathlib.Nat.{mod-eq_of_lt}
use native.Mathlib.Omega.{arith}
use borrow.Author.Tests.{eq-eqb}
use lib.Dec.{eqb}
use lib.ListN.{length, get_or, set, drop, drop_of_length-le, length-append, get_or-append}
use lib.Seq.{drop-cons, set_at, get_or-append_seam}
use Rattle.std.specs.Prelude.{Result, Ok, Err}
use Rattle.ground.specs.declared.refusal.Refusal.{Refusal}
use Rattle.ground.specs.Outcome.{Is}
use Rattle.ground.specs.Choice.{first_of}
use Rattle.ground.specs.Table.{tab}
use Rattle.ground.proofs.Choice.{choose_true, either_false, no_difference, past}
use Rattle.ground.proofs.Table.{length_tab}
use Rattle.ground.proofs.Refusals.{number_not_0, number_same}
use Rattle.bits.proofs.Places.{field_lt}
use Rattle.description.specs.Rows.{Row, Each}
use Rattle.description.specs.Fields.{table16, table19, disperser_inv_flag}
use Rattle.description.specs.Description.{own_sections}
use Rattle.views.specs.Rows.{row_from, row_at, rows_at}
use Rattle.records.specs.declared.Pipe.{Pipe}
use Rattle.records.specs.Records.{pipe_of, pipe_at}
use Rattle.slots.specs.declared.Profile.{Profile}
use Rattle.slots.specs.Disperser.{tap_delay_rec}
use Rattle.tap_lengths.specs.Lengths.{tap_total, intermed_len}
use Rattle.tap_lengths.specs.Sections.{sections_at}
use Rattle.tap_lengths.proofs.Sections.{section_row}
use Rattle.tap_lengths.proofs.Walking.{sections_length}
use Rattle.profile.specs.Profile.{tap_length, by_columns, flipped, profile_of}
use Rattle.profile.specs.Lent.{Profiled, lent_fields, lent_sections, profile_fault, told, numbers_of, profile_faults, profiling}
use Rattle.profile.specs.Wanted.{LentAtMost, Bounded}
use Rattle.profile.proofs.Delays.{own_most, at_most, tap_most}

-- any bytes have a record
pub record_row : (l : List ℕ) → Row table16 (lent_fields l)
unfolding lent_fields row_at row_from Row
record_row l = (
  field_lt l 0 6 (omega arith),
  (
    field_lt l 6 10 (omega arith),
    (
      field_lt l 16 5 (omega arith),
      (
        field_lt l 21 3 (omega arith),
        (
          field_lt l 24 1 (omega arith),
          (
            field_lt l 25 1 (omega arith),
            (field_lt l 26 10 (omega arith), (field_lt l 36 4 (omega arith), (field_lt l 40 4 (omega arith), (field_lt l 44 4 (omega arith), tt)))),
          ),
        ),
      ),
    ),
  ),
)

-- the sections that it owns, as they are read
pub own_is : (l : List ℕ) (q : Pipe) → q ≡ pipe_at l 0 0 → q.d ≡ own_sections (lent_fields l)
unfolding pipe_at pipe_of lent_fields
own_is l q e = ap (λ (x : Pipe). x.d) e

pub own_small : (l : List ℕ) → own_sections (lent_fields l) ≤ 8
own_small l = own_most (lent_fields l) (record_row l)

-- what is told of a pipe determines the answer
pub told_inj : (r s : Result Profile Refusal) → told r ≡ told s → r ≡ s
told_inj (Ok p) (Ok q) e = ap (λ (x : Profiled). Ok x.profile) e
told_inj (Ok p) (Err f) e = absurd (number_not_0 f (sym (ap (λ (x : Profiled). x.refusal) e)))
told_inj (Err e) (Ok q) h = absurd (number_not_0 e (ap (λ (x : Profiled). x.refusal) h))
told_inj (Err e) (Err f) h = ap (λ (x : Refusal). Err x) (number_same (ap (λ (x : Profiled). x.refusal) h))

-- ---- and of each that is not refused the greatest delay is at most 6,160

rows : (l : List ℕ) (i n : ℕ) → Each (Row table19) (tab (λ k. row_at table19 l (52 + 16 * k)) i n)
unfolding tab
rows l i zero = tt
rows l i (suc n) = (section_row l (52 + 16 * i), rows l (suc i) n)

section_rows : (l : List ℕ) (n : ℕ) → Each (Row table19) (sections_at n l)
unfolding rows_at
section_rows l n = rows l 0 n

pub tapped : (l : List ℕ) → profile_fault l ≡ false → tap_total (lent_sections l) ≡ 32
unfolding profile_fault
tapped l f = no_difference (tap_total (lent_sections l)) 32 (either_false (not (eqb (length l) (6 + 2 * own_sections (lent_fields l)))) (not (eqb (tap_total (lent_sections l)) 32)) f).1

pub lent_at_most : LentAtMost
lent_at_most l f =
    at_most (lent_fields l) (lent_sections l) (record_row l) (section_rows l (own_sections (lent_fields l))) (omega (arith, own_small l, sections_length (own_sections (lent_fields l)) l)) (tapped l f)

-- ---- the numbers that are handed out

pub numbers_are : (p : Profile) (out : List ℕ) {x : List ℕ} → length p.taps ≡ 32 → length out ≡ 33 → x ≡ p.taps → set (x ++ drop 32 out) 32 p.greatest ≡ numbers_of p
unfolding numbers_of
numbers_are p out t n e =
    ap₂ (λ (x y : List ℕ). set (x ++ y) 32 p.greatest) e (drop-cons out 32 0 (omega arith) ∙ ap (λ (y : List ℕ). get_or out 32 0 ∷ y) (drop_of_length-le out {i = 33} (omega arith)))
    ∙ set_at p.taps (get_or out 32 0) [] p.greatest 32 t

-- ---- and what is known of them

module _ (l out m : List ℕ) (r : ℕ) (i : Is (profiling l out) r m) (z : r ≡ 0) where
  abbrev p : Profile
  p = profile_of (lent_fields l) (lent_sections l)

  none : first_of (profile_faults l out) ≡ 0
  unfolding profiling
  none = sym i.answer ∙ z

  numbers : m ≡ numbers_of p
  unfolding profiling
  numbers = i.memory ∙ choose_true _ _ (eq-eqb (first_of (profile_faults l out)) 0 none)

  unrefused : profile_fault l ≡ false
  unfolding profile_faults
  unrefused = let x : 0 < 20 = omega arith in (past _ 20 _ x none).0

  taps_long : length p.taps ≡ 32
  unfolding profile_of
  taps_long = length_tab (λ k. tap_length (lent_fields l) (intermed_len (lent_sections l) (by_columns (flipped (disperser_inv_flag (lent_fields l)) k)))) 0 32

  first : (k : ℕ) → k < 32 → get_or m k 0 ≡ get_or p.taps k 0
  unfolding numbers_of
  first k h = ap (λ (x : List ℕ). get_or x k 0) numbers ∙ get_or-append p.taps (p.greatest ∷ []) 0 k (omega (arith, taps_long))

  last : get_or m 32 0 ≡ p.greatest
  unfolding numbers_of
  last = ap (λ (x : List ℕ). get_or x 32 0) numbers ∙ ap (λ (n : ℕ). get_or (p.taps ++ (p.greatest ∷ [])) n 0) (sym taps_long) ∙ get_or-append_seam p.taps p.greatest [] 0

  -- the receiver's delay of unit k below 32 is length k
  tap_at_lem : (k : ℕ) → k < 32 → get_or p.taps k 0 ≤ p.greatest
  unfolding tap_delay_rec
  tap_at_lem k h = subst (λ (n : ℕ). get_or p.taps n 0 ≤ p.greatest) (mod-eq_of_lt h) (tap_most (lent_fields l) (lent_sections l) k)

  pub call_bounded : Bounded m
  unfolding numbers_of
  call_bounded = record {
    all = ap length numbers ∙ length-append p.taps (p.greatest ∷ []) ∙ ap (λ (n : ℕ). n + 1) taps_long;
    within = λ k h. omega (arith, first k h, last, tap_at_lem k h);
    most = omega (arith, last, lent_at_most l unrefused);
  }
