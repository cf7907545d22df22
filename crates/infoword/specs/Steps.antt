-- What the steps of a writer leave in a word of 1,536 bytes; any other buffer they leave alone.
-- Assumes nothing.
use Rattle.std.specs.Prelude.{ℕ, List, ◌++◌, eqb, length, take, drop}
use Rattle.ground.specs.Choice.{choose}
use Rattle.bits.specs.Lists.{bits, pack}
use Rattle.parity.specs.Part.{parts_of}
use Rattle.infoword.specs.Suffix.{covered_of, header_crc}
use Rattle.infoword.specs.Word.{fields49}

-- behind the first 1,504 bytes Parity_Parts of these, and zeros to the last four bytes (table 4): the first 28 bits of RFU
unfoldable pub parted : List ℕ → List ℕ
parted w = choose (eqb (length w) 1536) (take 1504 w ++ pack 28 (fields49 (parts_of w) ++ bits 28 0) ++ drop 1532 w) w

-- 1,532 bytes, then 18 bits of header, HeaderCRC over the bits that it covers in the word so far, and the spare bits
unfoldable pub sealed : List ℕ → List ℕ → List ℕ
sealed front h = front ++ pack 4 (h ++ bits 8 (header_crc (covered_of (front ++ pack 4 (h ++ bits 14 0)))) ++ bits 6 0)

-- the last four bytes made such, with the low 18 bits of a number for the header
unfoldable pub closing : List ℕ → ℕ → List ℕ
closing w head = choose (eqb (length w) 1536) (sealed (take 1532 w) (bits 18 head)) w
