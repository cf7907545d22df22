-- A signalling word read: the lists that stand in its bits, its refusals in the reader's order, and the reader's outcome.
-- Assumes nothing.
use Rattle.std.specs.Prelude.{ℕ, ◌+◌, ◌*◌, Bool, not, List, [], ◌∷◌, ◌++◌, eqb, ltb, length, take, drop}
use Rattle.ground.specs.Outcome.{Outcome, Told}
use Rattle.ground.specs.Choice.{choose, either, Fault, refuse, first_of, verdict}
use Rattle.bits.specs.Lists.{num, unpack}
use Rattle.crc.specs.Crc.{crc12}
use Rattle.description.specs.Rows.{cut, cuts}
use Rattle.description.specs.Fields.{table15, table16, table16b, table18, table19, num_pipes1}
use Rattle.description.specs.Description.{Lists, stream_count, section_count}
use Rattle.description.specs.Rules.{size}
use Rattle.description.specs.Sheet.{sheet_of}
use Rattle.description.specs.Tests.{version_fault, lists_fault, any_set, list_faults}

-- ---- the lists in the 768 bits b of a word (table 14), by their places

unfoldable pub multiplex_in : List ℕ → List ℕ
multiplex_in b = cut table15 b

-- p, s and d follow from the multiplex fields, the tail and the pipe records
unfoldable pub p_in : List ℕ → ℕ
p_in b = num_pipes1 (multiplex_in b)

unfoldable pub pipes_in : List ℕ → List (List ℕ)
pipes_in b = cuts table16 (p_in b) (drop 56 b)

unfoldable pub tail_in : List ℕ → List ℕ
tail_in b = cut table16b (drop (56 + 48 * p_in b) b)

unfoldable pub s_in : List ℕ → ℕ
s_in b = stream_count (pipes_in b) (tail_in b)

unfoldable pub d_in : List ℕ → ℕ
d_in b = section_count (pipes_in b)

unfoldable pub streams_in : List ℕ → List (List ℕ)
streams_in b = cuts table18 (s_in b) (drop (72 + 48 * p_in b) b)

unfoldable pub sections_in : List ℕ → List (List ℕ)
sections_in b = cuts table19 (d_in b) (drop (72 + 48 * p_in b + 16 * s_in b) b)

unfoldable pub lists_in : List ℕ → Lists
lists_in b = record { multiplex = multiplex_in b; pipes = pipes_in b; tail = tail_in b; streams = streams_in b; sections = sections_in b }

-- ---- the refusals, in the order from word to sheet: 1 2 5 6 7 8 9 10 11

-- 2: a spare bit is set
unfoldable pub spare_fault : List ℕ → Bool
spare_fault b = any_set (drop 762 b)

-- 5: the CRC is wrong
unfoldable pub crc_fault : List ℕ → Bool
crc_fault b = not (eqb (num (take 12 (drop 750 b))) (crc12 (take 750 b)))

-- 8: a bit after the lists and before 750 is set
unfoldable pub padding_fault : List ℕ → Bool
padding_fault b = any_set (drop (size (p_in b) (s_in b) (d_in b)) (take 750 b))

unfoldable pub word_faults : List ℕ → List Fault
word_faults b =
    refuse 2 (spare_fault b) ∷
    refuse 5 (crc_fault b) ∷
    refuse 6 (version_fault (multiplex_in b)) ∷
    refuse 7 (lists_fault (p_in b) (s_in b) (d_in b)) ∷
    refuse 8 (padding_fault b) ∷
    list_faults (lists_in b)

-- 1: the word is not 96 bytes, or the room is below 128
unfoldable pub read_refusal : List ℕ → List ℕ → ℕ
read_refusal w out =
    first_of (refuse 1 (either (not (eqb (length w) 96)) (ltb (length out) 128)) ∷ word_faults (unpack w))

-- ---- the outcome

-- the room with the sheet at its front, the bytes past it as before
abbrev pub front : List ℕ → List ℕ → List ℕ
front sheet out = sheet ++ drop (length sheet) out

-- what the tests of a word's bits say: the counts, or the first refusal
unfoldable pub surveyed : List ℕ → Told
surveyed b = verdict (word_faults b) (p_in b ∷ s_in b ∷ d_in b ∷ [])

unfoldable pub reading : List ℕ → List ℕ → Outcome Told (List ℕ)
reading w out =
    choose (eqb (read_refusal w out) 0)
    (record { answer = surveyed (unpack w); memory = front (sheet_of (lists_in (unpack w))) out })
    (record { answer = record { number = read_refusal w out; values = [] }; memory = out })
