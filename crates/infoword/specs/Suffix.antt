-- What ends every payload word, whatever its stream type (clauses 4.3.1 to 4.3.4): the header, the CRC over it, and six spare bits.
-- Assumes nothing.
use Rattle.std.specs.Prelude.{ℕ, ◌-◌, Bool, List, ◌++◌, eqb}
use Rattle.ground.specs.Choice.{choose, either}
use Rattle.ground.specs.Table.{tab}
use Rattle.bits.specs.Lists.{bits}
use Rattle.bits.specs.Places.{bit_at, field_at}
use Rattle.crc.specs.Crc.{crc8}

-- STS_ID, STS_Stream_Type_ID, Encap_Ver and HeaderCRC stand at the same bits in each word; the spare bits are document 01's
abbrev pub id_of : List ℕ → ℕ
id_of w = field_at w 12260 8

abbrev pub kind_of : List ℕ → ℕ
kind_of w = field_at w 12268 3

abbrev pub version_of : List ℕ → ℕ
version_of w = field_at w 12271 3

abbrev pub crc_field_of : List ℕ → ℕ
crc_field_of w = field_at w 12274 8

abbrev pub spare_of : List ℕ → ℕ
spare_of w = field_at w 12282 6

-- whether a stream type has Parity_Parts, and 32 bits between them and STS_ID: types 2 and 3 (tables 4 and 5)
abbrev pub has_parity : ℕ → Bool
has_parity kind = either (eqb kind 2) (eqb kind 3)

-- how many bits a word has before STS_ID that are not of its payload or its parity: 32 in types 2 and 3 (tables 4 and 5), 4 in types 0 and
-- 1 (tables 2 and 3) and in a type that is refused
unfoldable pub lead_bits : ℕ → ℕ
lead_bits kind = choose (has_parity kind) 32 4

-- RFU begins there. It is all of them, but for type 3, where First_Header_Address is the last 12 (table 5)
unfoldable pub rfu_bits : ℕ → ℕ
rfu_bits kind = choose (eqb kind 3) 20 (lead_bits kind)

unfoldable pub rfu_of : List ℕ → ℕ
rfu_of w = field_at w (12260 - lead_bits (kind_of w)) (rfu_bits (kind_of w))

-- First_Header_Address, in type 3 alone
abbrev pub address_of : List ℕ → ℕ
address_of w = field_at w 12248 12

-- how many bits of the header the CRC covers, by stream type: 46 for types 2 and 3 (tables 4 and 5), 18 for types 0 and 1 (tables 2 and 3)
-- and for a type that is refused
unfoldable pub covered : ℕ → ℕ
covered kind = choose (has_parity kind) 46 18

-- those bits of a word, by the type that it says itself: they end where HeaderCRC begins
unfoldable pub covered_of : List ℕ → List ℕ
covered_of w = tab (bit_at w) (12274 - covered (kind_of w)) (covered (kind_of w))

-- HeaderCRC: x^8 + x^5 + x^3 + x^2 + x + 1 over the covered bits (clause 4.3, annex B)
unfoldable pub header_crc : List ℕ → ℕ
header_crc h = crc8 h

-- the covered bits of a word that is written: what its stream type has before STS_ID, then the fields of every type
unfoldable pub header : List ℕ → ℕ → ℕ → ℕ → List ℕ
header lead id kind version = lead ++ bits 8 id ++ bits 3 kind ++ bits 3 version

-- with HeaderCRC and the spare bits behind them
unfoldable pub closed : List ℕ → List ℕ
closed h = h ++ bits 8 (header_crc h) ++ bits 6 0
