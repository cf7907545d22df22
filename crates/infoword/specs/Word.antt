-- The payload words of stream types 0 to 3 (clauses 4.3.1 to 4.3.4, tables 1 to 5).
-- Assumes nothing.
use Rattle.std.specs.Prelude.{ℕ, ◌-◌, List, [], ◌∷◌, ◌++◌, eqb, length, replicate}
use Rattle.ground.specs.Choice.{choose}
use Rattle.bits.specs.Lists.{bits, pack}
use Rattle.parity.specs.Part.{parts_of}
use Rattle.infoword.specs.Suffix.{has_parity, lead_bits, header, closed}

-- the payload packet's size in bytes, by stream type (table 1)
abbrev pub packet_bytes : ℕ → ℕ
packet_bytes kind = choose (has_parity kind) 1504 (choose (eqb kind 1) 1532 0)

-- the bytes of a word before what its stream type has behind the payload packet: 1,504 in types 2 and 3 (tables 4 and 5), 1,532 in types 0
-- and 1 (tables 2 and 3)
abbrev pub front_bytes : ℕ → ℕ
front_bytes kind = choose (has_parity kind) 1504 1532

-- they hold the packet; type 0 has an empty packet, and zeros there (table 2)
unfoldable pub filled : ℕ → List ℕ → List ℕ
filled n packet = packet ++ replicate (n - length packet) 0

-- numbers of 49 bits, one behind the other
unfoldable pub fields49 : List ℕ → List ℕ
fields49 [] = []
fields49 (v ∷ l) = bits 49 v ++ fields49 l

-- Parity_Parts of a payload packet: those of its four parts, in the same order, in types 2 and 3 (tables 4 and 5); types 0 and 1 have none
unfoldable pub parity_parts : ℕ → List ℕ → List ℕ
parity_parts kind packet = choose (has_parity kind) (fields49 (parts_of packet)) []

-- the word: the payload packet, what its stream type has behind it, and the header, closed, with these bits before STS_ID and Encap_Ver zero
unfoldable pub word_with : ℕ → ℕ → List ℕ → List ℕ → List ℕ
word_with kind id lead packet =
    filled (front_bytes kind) packet ++ pack (1536 - front_bytes kind) (parity_parts kind packet ++ closed (header lead id kind 0))

-- of types 0, 1 and 2 those bits are RFU, and zero
abbrev pub word_of : ℕ → ℕ → List ℕ → List ℕ
word_of kind id packet = word_with kind id (bits (lead_bits kind) 0) packet

-- of type 3 they are RFU, zero, and First_Header_Address
abbrev pub ip_word : ℕ → ℕ → List ℕ → List ℕ
ip_word id address packet = word_with 3 id (bits 20 0 ++ bits 12 address) packet
