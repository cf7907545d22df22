-- The sheet of a description (document 01, "Sheet"), numbers big-endian.
-- Assumes nothing.
use Rattle.std.specs.Prelude.{ℕ, ◌+◌, ◌*◌, ◌/◌, ◌%◌, List, [], ◌∷◌, ◌++◌, length}
use Rattle.bits.specs.Lists.{pack}
use Rattle.description.specs.Rows.{join, joins}
use Rattle.description.specs.Fields.{table15, table16, table16b, table18, table19}
use Rattle.description.specs.Description.{Description, Lists, lists_of}

-- a number in two bytes
abbrev pub two : ℕ → List ℕ
two n = n / 256 ∷ n % 256 ∷ []

-- a section in a sheet: the standard's bits under four bits that are zero
abbrev pub in_sheet : List (List ℕ) → List (List ℕ)
in_sheet [] = []
in_sheet (r ∷ rs) = (0 ∷ r) ∷ in_sheet rs

-- the header of form 1, the form of document 01, has 12 bytes
abbrev pub form1 : ℕ
form1 = 12

-- where the tail and the tables begin, behind a header of h bytes, 7 bytes of multiplex and 2 of tail; the last is the whole length. In form 1 the tables
-- and the end are 01's 21, 21 + 6p, 21 + 6p + 2s and 21 + 6p + 2s + 2d
abbrev pub tail_from : ℕ → ℕ
tail_from h = h + 7

abbrev pub pipes_from : ℕ → ℕ
pipes_from h = h + 9

abbrev pub streams_from : ℕ → ℕ → ℕ
streams_from h p = h + 9 + 6 * p

abbrev pub sections_from : ℕ → ℕ → ℕ → ℕ
sections_from h p s = h + 9 + 6 * p + 2 * s

abbrev pub sheet_end : ℕ → ℕ → ℕ → ℕ → ℕ
sheet_end h p s d = h + 9 + 6 * p + 2 * s + 2 * d

-- a header of h bytes: the counts, a zero byte, the offsets of the tables, the whole length
unfoldable pub header : ℕ → ℕ → ℕ → ℕ → List ℕ
header h p s d =
    p ∷ s ∷ d ∷ 0 ∷
    (two (pipes_from h) ++ (two (streams_from h p) ++ (two (sections_from h p s) ++ two (sheet_end h p s d))))

-- what stands behind a header
unfoldable pub records : Lists → List ℕ
records l =
    pack 7 (join table15 l.multiplex) ++
    (pack 2 (join table16b l.tail) ++
    (pack (6 * length l.pipes) (joins table16 l.pipes) ++
    (pack (2 * length l.streams) (joins table18 l.streams) ++
    pack (2 * length l.sections) (joins (4 ∷ table19) (in_sheet l.sections)))))

unfoldable pub sheet_of : Lists → List ℕ
sheet_of l = header form1 (length l.pipes) (length l.streams) (length l.sections) ++ records l

-- the sheet of a description
unfoldable pub sheet : Description → List ℕ
sheet d = sheet_of (lists_of d)
