-- What is asked of the words of stream types 0 and 1: that they have nothing of type 2.
-- Assumes nothing.
use Rattle.std.specs.Prelude.{ℕ, ◌-◌, ◌≤◌, not, ◌≡◌, List, [], ◌∷◌, ◌++◌, eqb, length, replicate}
use Rattle.ground.specs.Choice.{choose, refuse, first_of, refusing}
use Rattle.bits.specs.Lists.{bits, pack}
use Rattle.infoword.specs.Suffix.{header, closed}
use Rattle.encapsulation.specs.Writing.{written}

-- tables 2 and 3: 1,532 bytes with the payload at their front and zeros behind it, then RFU of 4 bits, STS_ID, STS_Stream_Type_ID and
-- Encap_Ver, HeaderCRC over these 18 bits, and the spare bits
unfoldable pub plain_word : ℕ → ℕ → List ℕ → List ℕ
plain_word kind id payload = payload ++ replicate (1532 - length payload) 0 ++ pack 4 (closed (header (bits 4 0) id kind 0))

-- whatever the packet count and the null packet are, a write of type 0 or 1 looks at the lengths of payload and word and leaves this word
abbrev pub TypesZeroAndOne : Type 0
TypesZeroAndOne =
    (kind id count : ℕ) (payload null word : List ℕ) → kind ≤ 1
    → written kind id count payload null word
    ≡ refusing (first_of (refuse 1 (not (eqb (length payload) (choose (eqb kind 1) 1532 0))) ∷ refuse 1 (not (eqb (length word) 1536)) ∷ []))
    (plain_word kind id payload) word
