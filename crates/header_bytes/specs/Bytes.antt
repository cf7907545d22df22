-- A header in the 16 bytes that the C interface has.
-- Assumes nothing.
use Rattle.std.specs.Prelude.{ℕ, List, [], ◌∷◌, ◌++◌, eqb, length, replicate}
use Rattle.ground.specs.Choice.{choose}
use Rattle.bits.specs.Lists.{bits, pack}
use Rattle.fields.specs.declared.Header.{Header}

-- the header as the C interface has it: RFU as a 32-bit number, stream id, stream type, Encap_Ver, parity, First_Header_Address as a 16-bit
-- number, how many bytes of packets were handed out as another, four zero bytes
unfoldable pub header_with : Header → ℕ → List ℕ
header_with h handed =
    pack 4 (bits 32 h.rfu) ++ (h.id ∷ h.kind ∷ h.version ∷ h.parity ∷ []) ++ pack 2 (bits 16 h.address) ++ pack 2 (bits 16 handed) ++ replicate 4 0

-- where none are handed out
abbrev pub header_bytes : Header → List ℕ
header_bytes h = header_with h 0

-- it is put into 16 bytes
unfoldable pub header_put : Header → ℕ → List ℕ → List ℕ
header_put h handed out = choose (eqb (length out) 16) (header_with h handed) out
