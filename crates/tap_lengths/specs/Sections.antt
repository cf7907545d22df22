-- A pipe as it is lent: its record of six bytes and its sections of two bytes each, as they stand in a sheet. Of a section's two bytes the top four bits are
-- not looked at.
-- Assumes nothing.
use Rattle.std.specs.Prelude.{ℕ, ◌+◌, ◌*◌, List}
use Rattle.description.specs.Fields.{table19, tap_diff, gap_width}
use Rattle.description.specs.Rules.{taps}
use Rattle.views.specs.Rows.{row_at, rows_at}
use Rattle.tap_lengths.specs.declared.Section.{Section}

-- n sections, behind the record
abbrev pub sections_at : ℕ → List ℕ → List (List ℕ)
sections_at n l = rows_at table19 16 n l 52

-- what a section says
unfoldable pub section_of : List ℕ → Section
section_of s = record { taps = taps s; diff = tap_diff s; gap = gap_width s }

unfoldable pub section_at : List ℕ → ℕ → Section
section_at l i = section_of (row_at table19 l (52 + 16 * i))
