-- What is refused of a payload word, with the documents' numbers in their order, and what is reported of its header.
-- Assumes nothing.
use Rattle.std.specs.Prelude.{ℕ, Bool, not, List, [], ◌∷◌, eqb, ltb, length}
use Rattle.ground.specs.Choice.{choose, both, Fault, refuse, first_of}
use Rattle.parity.specs.Part.{held_of}
use Rattle.infoword.specs.Suffix.{id_of, kind_of, version_of, crc_field_of, spare_of, has_parity, rfu_of, address_of, covered_of, header_crc}
use Rattle.fields.specs.declared.Header.{Header}

-- the address stands where no header can: 1,503 to 4,094; 4,095 says that there is none (table 5)
abbrev pub no_header_at : ℕ → Bool
no_header_at address = both (ltb 1502 address) (ltb address 4095)

-- "Payload read": 1 2 5 16 15 18
abbrev pub read_faults : List ℕ → List Fault
read_faults w =
    refuse 1 (not (eqb (length w) 1536)) ∷
    refuse 2 (not (eqb (spare_of w) 0)) ∷
    refuse 5 (not (eqb (crc_field_of w) (header_crc (covered_of w)))) ∷
    refuse 16 (not (eqb (version_of w) 0)) ∷
    refuse 15 (ltb 3 (kind_of w)) ∷
    refuse 18 (both (eqb (kind_of w) 3) (no_header_at (address_of w))) ∷ []

unfoldable pub read_refusal : List ℕ → ℕ
read_refusal w = first_of (read_faults w)

-- which parts of a word hold: the four of types 2 and 3; types 0 and 1 have none
unfoldable pub holding_of : List ℕ → ℕ
holding_of w = choose (has_parity (kind_of w)) (held_of w) 0

-- what is reported of a word: RFU, STS_ID, STS_Stream_Type_ID and Encap_Ver as they stand, which parts hold, and First_Header_Address, which
-- is 0 in types 0, 1 and 2
unfoldable pub header_of : List ℕ → Header
header_of w = record { rfu = rfu_of w; id = id_of w; kind = kind_of w; version = version_of w; parity = holding_of w; address = choose (eqb (kind_of w) 3) (address_of w) 0 }
