-- A sheet read: the lists that stand in it, the tests of its records over counts that are given, and the outcomes of form 1, whose counts are those that its
-- header states.
-- Assumes nothing.
use Rattle.std.specs.Prelude.{ℕ, ◌*◌, Bool, not, List, [], ◌∷◌, map, eqb, length, get_or, drop}
use Rattle.ground.specs.Outcome.{Outcome, Told}
use Rattle.ground.specs.Choice.{either, Fault, refuse, first_of, refusing, verdict}
use Rattle.bits.specs.Lists.{unpack}
use Rattle.description.specs.Rows.{cut, cuts}
use Rattle.description.specs.Fields.{table15, table16, table16b, table18, table19, num_pipes1}
use Rattle.description.specs.Description.{Lists, stream_count, section_count}
use Rattle.description.specs.Layout.{word_of}
use Rattle.description.specs.Sheet.{form1, tail_from, pipes_from, streams_from, sections_from}
use Rattle.description.specs.Tests.{version_fault, lists_fault, any_set, list_faults}
use Rattle.description.specs.Header.{p_stated, s_stated, d_stated, header_fault}

-- ---- the lists in the bits b of a sheet with a header of h bytes, where there are p payload pipes, s streams and d sections

-- a section without the four bits above it
abbrev pub bare : List (List ℕ) → List (List ℕ)
bare [] = []
bare (r ∷ rs) = drop 1 r ∷ bare rs

unfoldable pub sheet_sections : ℕ → ℕ → ℕ → ℕ → List ℕ → List (List ℕ)
sheet_sections h p s d b = cuts (4 ∷ table19) d (drop (8 * sections_from h p s) b)

-- the multiplex stands behind the header
unfoldable pub sheet_lists : ℕ → ℕ → ℕ → ℕ → List ℕ → Lists
sheet_lists h p s d b = record {
  multiplex = cut table15 (drop (8 * h) b);
  pipes = cuts table16 p (drop (8 * pipes_from h) b);
  tail = cut table16b (drop (8 * tail_from h) b);
  streams = cuts table18 s (drop (8 * streams_from h p) b);
  sections = bare (sheet_sections h p s d b);
}

-- ---- the tests of the records, the counts given, in the order from sheet to word: 14 6 13 7 9 10 11

-- 14: the top four bits of a section are set
unfoldable pub top_fault : ℕ → ℕ → ℕ → ℕ → List ℕ → Bool
top_fault h p s d b = any_set (map (λ r. get_or r 0 0) (sheet_sections h p s d b))

-- 13: the counts differ from what the records say
unfoldable pub count_fault : ℕ → ℕ → ℕ → Lists → Bool
count_fault p s d l =
    either (not (eqb p (num_pipes1 l.multiplex)))
    (either (not (eqb s (stream_count l.pipes l.tail))) (not (eqb d (section_count l.pipes))))

unfoldable pub record_faults : ℕ → ℕ → ℕ → ℕ → List ℕ → List Fault
record_faults h p s d b =
    refuse 14 (top_fault h p s d b) ∷
    refuse 6 (version_fault (sheet_lists h p s d b).multiplex) ∷
    refuse 13 (count_fault p s d (sheet_lists h p s d b)) ∷
    refuse 7 (lists_fault p s d) ∷
    list_faults (sheet_lists h p s d b)

-- ---- form 1: the counts are those that the header states; its own test, 12, comes first

unfoldable pub lists_stated : List ℕ → Lists
lists_stated sh = sheet_lists form1 (p_stated sh) (s_stated sh) (d_stated sh) (unpack sh)

unfoldable pub sheet_faults : List ℕ → List Fault
sheet_faults sh = refuse 12 (header_fault form1 sh) ∷ record_faults form1 (p_stated sh) (s_stated sh) (d_stated sh) (unpack sh)

-- what the check of a sheet says: the counts, or the first refusal
unfoldable pub checked : List ℕ → Told
checked sh = verdict (sheet_faults sh) (p_stated sh ∷ s_stated sh ∷ d_stated sh ∷ [])

-- ---- the writer's outcome

-- 1: the word is not 96 bytes
unfoldable pub write_refusal : List ℕ → List ℕ → ℕ
write_refusal sh word = first_of (refuse 1 (not (eqb (length word) 96)) ∷ sheet_faults sh)

unfoldable pub writing : List ℕ → List ℕ → Outcome ℕ (List ℕ)
writing sh word = refusing (write_refusal sh word) (word_of (lists_stated sh)) word
