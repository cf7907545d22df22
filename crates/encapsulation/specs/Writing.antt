-- What the writer of a payload word answers and leaves, with the documents' refusals in their order.
-- Assumes nothing.
use Rattle.std.specs.Prelude.{ℕ, zero, suc, ◌-◌, List, [], ◌++◌, eqb, length}
use Rattle.ground.specs.Outcome.{Outcome}
use Rattle.ground.specs.Choice.{choose, refusing}
use Rattle.infoword.specs.Word.{word_of}
use Rattle.write_faults.specs.Faults.{write_refusal}

-- a packet, so many times
unfoldable pub repeated : ℕ → List ℕ → List ℕ
repeated zero packet = []
repeated (suc n) packet = packet ++ repeated n packet

-- the payload packet: of type 2 the packets that there are, and null packets for those that are missing of eight (clause 4.3.3); of types
-- 0 and 1 what is lent
unfoldable pub packet_of : ℕ → ℕ → List ℕ → List ℕ → List ℕ
packet_of kind count payload null = choose (eqb kind 2) (payload ++ repeated (8 - count) null) payload

-- the word written into 1,536 bytes
unfoldable pub written : ℕ → ℕ → ℕ → List ℕ → List ℕ → List ℕ → Outcome ℕ (List ℕ)
written kind id count payload null word =
    refusing (write_refusal kind count (length payload) (length null) (length word)) (word_of kind id (packet_of kind count payload null)) word
