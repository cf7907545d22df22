-- The start-of-frame preamble (clause 4.10.1.2, whose last word drops an F: document 01 decides), in the two forms that frames have in turn.
-- Assumes nothing.
use Rattle.std.specs.Prelude.{ℕ, ◌-◌, Bool, not, List, [], ◌∷◌, eqb, length}
use Rattle.ground.specs.Outcome.{Outcome}
use Rattle.ground.specs.Choice.{choose, refuse, first_of, refusing}
use Rattle.bits.specs.Lists.{unpack, pack}

-- the words of the standard in their order: "SOF preamble: New C-TS frame", and the padding that makes ones and zeros equally many
unfoldable pub sof : List ℕ
sof =
    0x53 ∷ 0x4f ∷ 0x46 ∷ 0x20 ∷
    0x70 ∷ 0x72 ∷ 0x65 ∷ 0x61 ∷
    0x6d ∷ 0x62 ∷ 0x6c ∷ 0x65 ∷
    0x3a ∷ 0x20 ∷ 0x4e ∷ 0x65 ∷
    0x77 ∷ 0x20 ∷ 0x43 ∷ 0x2d ∷
    0x54 ∷ 0x53 ∷ 0x20 ∷ 0x66 ∷
    0x72 ∷ 0x61 ∷ 0x6d ∷ 0x65 ∷
    0xff ∷ 0xff ∷ 0xff ∷ 0xfc ∷ []

-- "every bit value 0 is replaced by value 1 and vice versa", of a list of bits
unfoldable pub inverse : List ℕ → List ℕ
inverse [] = []
inverse (b ∷ l) = (1 - b) ∷ inverse l

-- the preamble in "bitwise inverted form"
unfoldable pub sof_inverted : List ℕ
sof_inverted = pack 32 (inverse (unpack sof))

-- the preamble of a frame in which the inverted one is due, or is not
unfoldable pub due : Bool → List ℕ
due inverted = choose inverted sof_inverted sof

-- the preamble that is due written into 32 bytes exactly; any other length is refused with 1, and nothing is touched
unfoldable pub written : Bool → List ℕ → Outcome ℕ (List ℕ)
written inverted out = refusing (first_of (refuse 1 (not (eqb (length out) 32)) ∷ [])) (due inverted) out
