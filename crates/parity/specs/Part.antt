-- The parity part of clause 4.3.3: 49 bits for a message of 376 bytes.
-- Assumes nothing.
use Rattle.std.specs.Prelude.{ℕ, ◌+◌, ◌*◌, ◌%◌, ◌^◌, Bool, List, [], ◌∷◌, ◌++◌, eqb, take, drop, get_or, replicate}
use Rattle.ground.specs.Choice.{both, choose}
use Rattle.ground.specs.Table.{tab}
use Rattle.bits.specs.Lists.{bits, num}
use Rattle.bits.specs.Places.{bit_at}
use Rattle.bits.specs.Sums.{ones}
use Rattle.parity.specs.Division.{divide}

-- the sum of the powers of x with these exponents, each once
unfoldable pub powers : List ℕ → ℕ
powers [] = 0
powers (e ∷ l) = 2 ^ e + powers l

-- g(x)
unfoldable pub generator : ℕ
generator = powers (48 ∷ 44 ∷ 41 ∷ 37 ∷ 36 ∷ 34 ∷ 32 ∷ 29 ∷ 27 ∷ 26 ∷ 21 ∷ 17 ∷ 16 ∷ 13 ∷ 7 ∷ 5 ∷ 3 ∷ 1 ∷ 0 ∷ [])

-- d(x), the remainder of x^48 m(x) by g(x), for the message bits m
unfoldable pub remainder : List ℕ → ℕ
remainder m = divide 48 generator 0 (m ++ replicate 48 0)

-- a polynomial's value at x = 1: the sum of its coefficients
unfoldable pub at_one : List ℕ → ℕ
at_one c = ones c % 2

-- c_o(x) = x^48 m(x) + d(x), its coefficients
unfoldable pub outer : List ℕ → List ℕ
outer m = m ++ bits 48 (remainder m)

-- the parity part d47 .. d0 p0, as the number that its 49 bits spell
unfoldable pub parity_of : List ℕ → ℕ
parity_of m = remainder m * 2 + at_one (outer m)

-- the whole codeword (m3007 .. m0, d47 .. d0, p0)
unfoldable pub codeword : List ℕ → List ℕ
codeword m = m ++ bits 49 (parity_of m)

-- whether the parity of the 3,057 received bits c holds: the 48 bits behind the message are its remainder by the generator, and the last
-- bit is the sum of all bits before it
unfoldable pub parity_holds : List ℕ → Bool
parity_holds c =
    both (eqb (num (take 48 (drop 3008 c))) (remainder (take 3008 c)))
    (eqb (get_or c 3056 0) (at_one (take 3056 c)))

-- the message bits m3007 .. m0 of the 376 bytes at a byte place; what is past the end reads zero
abbrev pub message_at : List ℕ → ℕ → List ℕ
message_at w from = tab (bit_at w) (8 * from) 3008

-- the parity part for these
unfoldable pub part_of : List ℕ → ℕ → ℕ
part_of w from = parity_of (message_at w from)

-- the parity parts of the four parts of a payload word, the part k at byte 376 k
unfoldable pub parts_of : List ℕ → List ℕ
parts_of w = tab (λ k. part_of w (376 * k)) 0 4

-- the 3,057 bits of the part k of a payload word: 376 bytes of packets, and the k-th 49 bits of Parity_Parts, which start at bit 12,032
unfoldable pub received : List ℕ → ℕ → List ℕ
received w k = message_at w (376 * k) ++ tab (bit_at w) (12032 + 49 * k) 49

-- which parts of a payload word hold, as a number with the bit k for the part k
unfoldable pub held_of : List ℕ → ℕ
held_of w =
    choose (parity_holds (received w 0)) 1 0 + choose (parity_holds (received w 1)) 2 0 + choose (parity_holds (received w 2)) 4 0
    + choose (parity_holds (received w 3)) 8 0
