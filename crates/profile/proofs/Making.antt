-- The lengths of a pipe as it is lent, as the code reads them.
-- Assumes nothing.
use Prim.Native.Nat.{ℕ, ◌-◌, ◌≤◌, ◌<◌}
use mathlib.Core.Path.{◌≡◌, refl, sym, ap, ap₂, ◌∙◌, subst}
use mathlib.Core.Bool.{Bool, true, false, not}
use mathlib.Core.List.{List}
use native.Mathlib.Nat.{zero-add}
use lib.Dec.{eqb}
use lib.ListN.{length, get_or}
use Rattle.ground.specs.Choice.{choose}
use Rattle.ground.specs.Table.{tab}
use Rattle.ground.proofs.Table.{get_or_tab, tab_ext}
use Rattle.bits.specs.Places.{field_at}
use Rattle.description.specs.Fields.{disperser_inv_flag, tap_diff_mult_int1, tap_diff_mult_fract116}
use Rattle.views.specs.Rows.{row_from, row_at}
use Rattle.slots.specs.declared.Profile.{Profile}
use Rattle.tap_lengths.specs.Lengths.{intermed_len}
use Rattle.tap_lengths.specs.Sections.{sections_at}
use Rattle.tap_lengths.proofs.Walking.{short_lengths}
use Rattle.profile.specs.Profile.{tap_length_by, tap_length, by_columns, flipped, max_delay, profile_of}
use Rattle.profile.specs.Lent.{lent_fields}

module _ (l : List ℕ) where
  pub inv_is : field_at l 24 1 ≡ disperser_inv_flag (lent_fields l)
  unfolding lent_fields row_at row_from
  inv_is = refl

  pub int_is : field_at l 36 4 ≡ tap_diff_mult_int1 (lent_fields l)
  unfolding lent_fields row_at row_from
  int_is = refl

  pub fract_is : field_at l 40 4 ≡ tap_diff_mult_fract116 (lent_fields l)
  unfolding lent_fields row_at row_from
  fract_is = refl

-- the flag as the code has it, a test
pub flip_is : (inv k : ℕ) → choose (not (eqb inv 0)) (31 - k) k ≡ flipped inv k
unfolding flipped
flip_is inv k = other (eqb inv 0)
  where
    other : (b : Bool) → choose (not b) (31 - k) k ≡ choose b k (31 - k)
    other true = refl
    other false = refl

-- the lengths before the multipliers
module _ (l : List ℕ) (n : ℕ) (lens : List ℕ) (e : lens ≡ tab (intermed_len (sections_at n l)) 0 32) (i : ℕ) (h : i < 32) where
  pub len_is : get_or lens i 0 ≡ intermed_len (sections_at n l) i
  len_is = ap (λ (x : List ℕ). get_or x i 0) e ∙ get_or_tab (intermed_len (sections_at n l)) 0 0 32 i h ∙ ap (intermed_len (sections_at n l)) (zero-add i)

  pub len_small : get_or lens i 0 ≤ 4095
  len_small = subst (λ (x : ℕ). x ≤ 4095) (sym len_is) (short_lengths l n i h)

  -- and after them
  pub tap_length_is : (int fract r : ℕ) → int ≡ field_at l 36 4 → fract ≡ field_at l 40 4 → r ≡ tap_length_by int fract (get_or lens i 0) → r ≡ tap_length (lent_fields l) (intermed_len (sections_at n l) i)
  tap_length_is int fract r a b c =
      c ∙ ap (tap_length_by int fract) len_is ∙ ap₂ (λ (x y : ℕ). tap_length_by x y (intermed_len (sections_at n l) i)) (a ∙ int_is l) (b ∙ fract_is l)

-- the length that comes k-th
abbrev pub tap_at : List ℕ → List (List ℕ) → ℕ → ℕ
tap_at pipe sections k = tap_length pipe (intermed_len sections (by_columns (flipped (disperser_inv_flag pipe) k)))

abbrev profile : List ℕ → ℕ → Profile
profile taps greatest = record { taps = taps; greatest = greatest }

pub made_is : (pipe : List ℕ) (sections : List (List ℕ)) (p : Profile) → length p.taps ≡ 32 → ((k : ℕ) → k < 32 → get_or p.taps k 0 ≡ tap_at pipe sections k)
    → p.greatest ≡ max_delay pipe sections → p ≡ profile_of pipe sections
unfolding profile_of
made_is pipe sections p n h g = ap₂ profile (tab_ext (tap_at pipe sections) 0 32 p.taps n h) g
