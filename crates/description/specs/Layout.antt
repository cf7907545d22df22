-- How a description is written as a signalling word (table 14).
-- Assumes nothing.
use Rattle.std.specs.Prelude.{ℕ, ◌-◌, List, ◌++◌, length, replicate}
use Rattle.bits.specs.Lists.{bits, pack}
use Rattle.crc.specs.Crc.{crc12}
use Rattle.description.specs.Rows.{join, joins}
use Rattle.description.specs.Fields.{table15, table16, table16b, table18, table19}
use Rattle.description.specs.Description.{Description, Lists, lists_of}

-- the lists: multiplex, payload pipes, tail pipe, streams, sections
unfoldable pub body : Lists → List ℕ
body l =
    join table15 l.multiplex ++
    (joins table16 l.pipes ++
    (join table16b l.tail ++
    (joins table18 l.streams ++ joins table19 l.sections)))

-- zeros up to bit 750
unfoldable pub padded : List ℕ → List ℕ
padded b = b ++ replicate (750 - length b) 0

-- the CRC-12 over those 750 bits, and the six spare bits
unfoldable pub sealed : List ℕ → List ℕ
sealed b = b ++ (bits 12 (crc12 b) ++ replicate 6 0)

-- the 96 bytes, of lists and of a description
unfoldable pub word_of : Lists → List ℕ
word_of l = pack 96 (sealed (padded (body l)))

unfoldable pub layout : Description → List ℕ
layout d = word_of (lists_of d)
