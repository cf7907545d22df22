-- What is asked of the parity part, as propositions. The theorems say that they hold, and some of them hold of the functions' own promises too
-- (parts/proofs/Promised.antt, parts_held/proofs/Promised.antt).
-- Assumes nothing.
use Rattle.std.specs.Prelude.{ℕ, ◌*◌, ◌%◌, ◌^◌, true, false, ◌≡◌, ◌↔◌, List, length, take}
use Rattle.std.specs.Int.Bits.{bit_xor}
use Rattle.bits.specs.Lists.{num, Below}
use Rattle.bits.specs.Sums.{added, ones}
use Rattle.crc.specs.Crc.{clocks}
use Rattle.parity.specs.Division.{Multiple, Remainder}
use Rattle.parity.specs.Part.{generator, remainder, codeword, parity_holds}

-- n bits
pub record Bits (n : ℕ) (l : List ℕ) : Type 0 where
  pub count : length l ≡ n
  pub each : Below 2 l

-- in how many places two lists of bits differ
unfoldable pub distance : List ℕ → List ℕ → ℕ
distance k l = ones (added k l)

-- d(x) is the remainder of x^48 m(x) by g(x), and nothing else is
pub record Divides (m : List ℕ) : Type 0 where
  pub is : Remainder 48 generator (num m * 2 ^ 48) (remainder m)
  pub only : (r : ℕ) → Remainder 48 generator (num m * 2 ^ 48) r → r ≡ remainder m

abbrev pub Division : Type 0
Division = (m : List ℕ) → Below 2 m → Divides m

-- and it is what the shift register of 48 stages with the generator's taps, all zero at first, holds after the message
abbrev pub Register : Type 0
Register = (m : List ℕ) → Below 2 m → remainder m ≡ clocks (2 ^ 47) (generator % 2 ^ 48) 0 m

-- the parity holds exactly where c_o(x) is a multiple of the generator and the sum of all 3,057 bits is 0
pub record Sound (c : List ℕ) : Type 0 where
  pub generated : Multiple generator (num (take 3056 c))
  pub even : ones c % 2 ≡ 0

abbrev pub Meaning : Type 0
Meaning = (c : List ℕ) → Bits 3057 c → (parity_holds c ≡ true) ↔ Sound c

-- a codeword's parity holds
abbrev pub Written : Type 0
Written = (m : List ℕ) → Bits 3008 m → Bits 3057 (codeword m) × (parity_holds (codeword m) ≡ true)

-- bits whose parity holds are their message's codeword
abbrev pub OneToOne : Type 0
OneToOne = (c : List ℕ) → Bits 3057 c → parity_holds c ≡ true → c ≡ codeword (take 3008 c)

-- two parts of one message that both hold are equal
abbrev pub SameMessage : Type 0
SameMessage = (c e : List ℕ) → Bits 3057 c → Bits 3057 e → parity_holds c ≡ true → parity_holds e ≡ true → take 3008 c ≡ take 3008 e → c ≡ e

-- any odd number of wrong bits is seen
abbrev pub OddSeen : Type 0
OddSeen = (c e : List ℕ) → Bits 3057 c → Bits 3057 e → parity_holds c ≡ true → distance c e % 2 ≡ 1 → parity_holds e ≡ false

-- the remainder of a sum is the sum of the remainders
abbrev pub Linear : Type 0
Linear = (k m : List ℕ) → length k ≡ length m → Below 2 k → Below 2 m → remainder (added k m) ≡ bit_xor (remainder k) (remainder m)
