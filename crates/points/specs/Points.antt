-- The ten cases that document 01 marks P ("Points on either side"): of each, what the definitions give and what 01 says.
-- Assumes nothing.
use Rattle.std.specs.Prelude.{ℕ, ◌+◌, List, [], ◌∷◌, ◌++◌, ltb, length, get_or, take, replicate}
use Rattle.ground.specs.Choice.{first_of}
use Rattle.ground.specs.Table.{tab}
use Rattle.bits.specs.Lists.{pack}
use Rattle.patterns.specs.Sent.{code_length}
use Rattle.description.specs.Rows.{join}
use Rattle.description.specs.Fields.{table16, punct_pat, pipe_width}
use Rattle.description.specs.Description.{Pipe, Description, own_streams, own_sections, lists_of}
use Rattle.description.specs.Layout.{body, padded, sealed}
use Rattle.description.specs.Rules.{size}
use Rattle.description.specs.Sheet.{sheet}
use Rattle.description.specs.Word.{p_in, s_in, d_in, word_faults}
use Rattle.description.specs.Form1.{sheet_faults}
use Rattle.order.specs.Order.{parameter, address, keep_if}
use Rattle.constituent.specs.Constituent.{y0, y1, state, clocked}
use Rattle.constituent.specs.Symbols.{tail_symbols1}

-- a case, as numbers
pub record Point : Type 0 where
  pub gives : List ℕ
  pub says : List ℕ

abbrev pub point : List ℕ → List ℕ → Point
point a b = record { gives = a; says = b }

-- ---- the descriptions that the cases name

-- the record of a payload pipe in use: pattern 5, width 18, n + 1 streams, one section, other fields 0
abbrev pub in_use : ℕ → List ℕ
in_use n = 5 ∷ 18 ∷ n ∷ 0 ∷ 0 ∷ 0 ∷ 0 ∷ 0 ∷ 0 ∷ 0 ∷ []

-- n streams, with the ids from i on
abbrev pub streams : ℕ → ℕ → List (List ℕ)
streams i n = tab (λ k. k ∷ 0 ∷ []) i n

-- a payload pipe not in use, and one in use with n + 1 streams and all 32 taps in its section
abbrev pub unused : Pipe
unused = record { fields = replicate 10 0; streams = []; sections = [] }

abbrev pub used : ℕ → ℕ → Pipe
used i n = record { fields = in_use n; streams = streams i (n + 1); sections = (15 ∷ 0 ∷ 0 ∷ []) ∷ [] }

-- these payload pipes, and a tail pipe of width w with its streams; other fields 0
abbrev pub plain : List Pipe → ℕ → List (List ℕ) → Description
plain ps w ss = record { multiplex = replicate 9 0 ++ (length ps ∷ []); pipes = ps; tail = 0 ∷ 0 ∷ w ∷ []; tail_streams = ss }

-- the bits of a description's word, its lists cut off at bit 750
abbrev pub word_bits : Description → List ℕ
word_bits d = sealed (take 750 (padded (body (lists_of d))))

-- p, s and d, the size that they say, and the number that the word and the sheet are refused with, 0 for accepted
abbrev pub judged : List ℕ → List ℕ → List ℕ
judged b sh = p_in b ∷ s_in b ∷ d_in b ∷ size (p_in b) (s_in b) (d_in b) ∷ first_of (word_faults b) ∷ first_of (sheet_faults sh) ∷ []

-- the same behind the bits of the description's lists as the layout writes them
abbrev pub sized : Description → List ℕ
sized d = length (body (lists_of d)) ∷ judged (word_bits d) (sheet d)

-- ---- encoder and interleaver

-- the input 1 0 0 0 0
abbrev pub impulse : ℕ → ℕ
impulse i = get_or (1 ∷ 0 ∷ 0 ∷ 0 ∷ 0 ∷ []) i 0

-- the symbol k, of X Y0 Y1, in the three clocks of the tail from a1 a2 a3 = 1 0 0
abbrev pub tail_of : ℕ → List ℕ
tail_of k = tab (λ t. get_or (tail_symbols1 (clocked (record { a1 = 1; a2 = 0; a3 = 0 }) t)) k 0) 0 3

-- what the counter value c adds to the order in which encoder 2 reads a block of N bits
abbrev pub added : ℕ → ℕ → List ℕ
added N c = let a : ℕ = address (parameter N) c in keep_if (ltb a N) a

-- ---- the cases, in 01's words

unfoldable pub points : List Point
points =
    -- p = 14, nothing in use: 744 bits, fits
    point (sized (plain (replicate 14 unused) 0 [])) (744 ∷ 14 ∷ 0 ∷ 0 ∷ 744 ∷ 0 ∷ 0 ∷ []) ∷
    -- p = 15: 792, refusal 7
    point (sized (plain (replicate 15 unused) 0 [])) (792 ∷ 15 ∷ 0 ∷ 0 ∷ 792 ∷ 7 ∷ 7 ∷ []) ∷
    -- p = 2, s = 34, d = 2: 736, fits
    point (sized (plain (used 0 31 ∷ used 32 0 ∷ []) 1 (streams 33 1))) (736 ∷ 2 ∷ 34 ∷ 2 ∷ 736 ∷ 0 ∷ 0 ∷ []) ∷
    -- s = 35: 752, refusal 7
    point (sized (plain (used 0 31 ∷ used 32 1 ∷ []) 1 (streams 34 1))) (752 ∷ 2 ∷ 35 ∷ 2 ∷ 752 ∷ 7 ∷ 7 ∷ []) ∷
    -- input 1 0 0 0 0 to a fresh encoder: Y0 = 1 1 1 1 0, Y1 = 1 1 0 1 1
    point (tab (λ i. y0 (impulse i) (state impulse i)) 0 5 ++ tab (λ i. y1 (impulse i) (state impulse i)) 0 5)
    (1 ∷ 1 ∷ 1 ∷ 1 ∷ 0 ∷ 1 ∷ 1 ∷ 0 ∷ 1 ∷ 1 ∷ []) ∷
    -- tail from a1 a2 a3 = 1 0 0: X = 0 1 1, Y0 = 1 0 1, Y1 = 1 1 1
    point (tail_of 0 ++ (tail_of 1 ++ tail_of 2)) (0 ∷ 1 ∷ 1 ∷ 1 ∷ 0 ∷ 1 ∷ 1 ∷ 1 ∷ 1 ∷ []) ∷
    -- counter 16,352 with n = 9, and 992 with n = 5, give address 0
    point (address 9 16352 ∷ address 5 992 ∷ []) (0 ∷ 0 ∷ []) ∷
    -- counter 31 gives an address that is dropped, both sizes
    point (added 12282 31 ++ added 762 31) [] ∷
    -- pattern 5, width 18, one stream, one section, other fields 0: record 14 12 00 00 00 00
    point (punct_pat (in_use 0) ∷ pipe_width (in_use 0) ∷ own_streams (in_use 0) ∷ own_sections (in_use 0) ∷ pack 6 (join table16 (in_use 0)))
    (5 ∷ 18 ∷ 1 ∷ 1 ∷ 0x14 ∷ 0x12 ∷ 0x00 ∷ 0x00 ∷ 0x00 ∷ 0x00 ∷ []) ∷
    -- pattern 5, payload block: 36,864 code bits
    point (code_length 5 12282 ∷ []) (36864 ∷ []) ∷ []
