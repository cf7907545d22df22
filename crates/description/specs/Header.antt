-- The header of a sheet: what it states, and its test, apart from those of the records. The header has h bytes (form 1: 12).
-- Assumes nothing.
use Rattle.std.specs.Prelude.{ℕ, ◌+◌, ◌*◌, Bool, not, List, eqb, ltb, length, get_or}
use Rattle.ground.specs.Choice.{either}
use Rattle.description.specs.Sheet.{pipes_from, streams_from, sections_from, sheet_end}

-- the counts that it states, and its two-byte numbers
abbrev pub p_stated : List ℕ → ℕ
p_stated sh = get_or sh 0 0

abbrev pub s_stated : List ℕ → ℕ
s_stated sh = get_or sh 1 0

abbrev pub d_stated : List ℕ → ℕ
d_stated sh = get_or sh 2 0

abbrev pub two_at : List ℕ → ℕ → ℕ
two_at sh i = get_or sh i 0 * 256 + get_or sh (i + 1) 0

-- 12: the sheet is shorter than header, multiplex and tail (in form 1, 21 bytes), the fourth byte is not 0, an offset or the whole length is not what the
-- counts give, or the lent length is another
unfoldable pub header_fault : ℕ → List ℕ → Bool
header_fault h sh =
    either (ltb (length sh) (pipes_from h))
    (either (not (eqb (get_or sh 3 0) 0))
    (either (not (eqb (two_at sh 4) (pipes_from h)))
    (either (not (eqb (two_at sh 6) (streams_from h (p_stated sh))))
    (either (not (eqb (two_at sh 8) (sections_from h (p_stated sh) (s_stated sh))))
    (either (not (eqb (two_at sh 10) (sheet_end h (p_stated sh) (s_stated sh) (d_stated sh))))
    (not (eqb (length sh) (sheet_end h (p_stated sh) (s_stated sh) (d_stated sh)))))))))
