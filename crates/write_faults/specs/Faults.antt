-- What is refused of a write, with the documents' numbers in their order.
-- Assumes nothing.
use Rattle.std.specs.Prelude.{ℕ, ◌*◌, not, List, [], ◌∷◌, eqb, ltb}
use Rattle.ground.specs.Choice.{choose, both, Fault, refuse, first_of}

-- how many bytes are lent for the payload: of type 2 count packets of 188 bytes, of type 1 the payload packet (table 1), of type 0 none
abbrev pub lent_bytes : ℕ → ℕ → ℕ
lent_bytes kind count = choose (eqb kind 2) (188 * count) (choose (eqb kind 1) 1532 0)

-- "write": 15, 17, 1, of a stream type, a packet count and the lengths of payload, null packet and word; the count and the null packet are
-- looked at for type 2 alone
abbrev pub write_faults : ℕ → ℕ → ℕ → ℕ → ℕ → List Fault
write_faults kind count payload null word =
    refuse 15 (ltb 2 kind) ∷
    refuse 17 (both (eqb kind 2) (ltb 8 count)) ∷
    refuse 1 (both (eqb kind 2) (not (eqb null 188))) ∷
    refuse 1 (not (eqb payload (lent_bytes kind count))) ∷
    refuse 1 (not (eqb word 1536)) ∷ []

unfoldable pub write_refusal : ℕ → ℕ → ℕ → ℕ → ℕ → ℕ
write_refusal kind count payload null word = first_of (write_faults kind count payload null word)
