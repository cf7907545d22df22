-- What is read of a section is what stands in its row.
-- Assumes nothing.
use Prim.Native.Nat.{ℕ, ◌+◌, ◌*◌}
use mathlib.Core.Path.{◌≡◌, sym, ap, ◌∙◌}
use mathlib.Core.List.{List}
use native.Mathlib.Nat.{add-zero}
use native.Mathlib.Omega.{arith}
use Rattle.bits.specs.Places.{field_at}
use Rattle.bits.proofs.Places.{field_lt}
use Rattle.description.specs.Fields.{table19}
use Rattle.description.specs.Rows.{Row}
use Rattle.views.specs.Rows.{row_from, row_at}
use Rattle.tap_lengths.specs.declared.Section.{Section}
use Rattle.tap_lengths.specs.Sections.{section_of, section_at}

abbrev pub section : ℕ → ℕ → ℕ → Section
section a b c = record { taps = a; diff = b; gap = c }

pub section_read : {a b c : ℕ} (w : List ℕ) (i : ℕ) → a ≡ field_at w (52 + 16 * i) 4 → b ≡ field_at w (52 + 16 * i + 4) 3 → c ≡ field_at w (52 + 16 * i + 7) 5
    → section ((a + 1) * 2) b c ≡ section_at w i
unfolding section_at section_of row_at row_from
section_read w i e f g = λ j. section (((e ∙ ap (λ (x : ℕ). field_at w x 4) (sym (add-zero (52 + 16 * i)))) j + 1) * 2) (f j) (g j)

-- any bytes have rows
pub section_row : (w : List ℕ) (at : ℕ) → Row table19 (row_at table19 w at)
unfolding row_at row_from Row
section_row w at = (field_lt w (at + 0) 4 (omega arith), (field_lt w (at + 4) 3 (omega arith), (field_lt w (at + 7) 5 (omega arith), tt)))
