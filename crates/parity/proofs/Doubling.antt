-- The parts of the messages of one byte: with each bit more the table is twice as long, and one sum gives each new entry.
-- Assumes nothing.
use Prim.Native.Nat.{ℕ, zero, suc, ◌+◌, ◌^◌, ◌<◌}
use mathlib.Core.Path.{◌≡◌, refl, sym, ap, ◌∙◌}
use mathlib.Core.List.{List, [], ◌∷◌, ◌++◌, map}
use native.Mathlib.Nat.{zero-add, one-mul, pow-suc}
use native.Mathlib.Omega.{arith}
use lib.Bits.{bit_xor, xor_shifted}
use Rattle.ground.specs.Table.{tab}
use Rattle.ground.proofs.Table.{tab_append, tab_shift, tab_cong, map_tab}
use Rattle.bits.specs.Lists.{bits}
use Rattle.bits.proofs.Lists.{bits_length, bits_below}
use Rattle.bits.proofs.Sums.{bits_xor}
use Rattle.parity.specs.Part.{parity_of}
use Rattle.parity.specs.Steps.{byte_parts}
use Rattle.parity.proofs.Linear.{part_sum}

-- the part of a message of one byte
unfoldable pub byte_part : ℕ → ℕ
byte_part k = parity_of (bits 8 k)

-- a table, and behind it each entry with v added
unfoldable pub grown : ℕ → List ℕ → List ℕ
grown v l = l ++ map (bit_xor v) l

-- the parts of the bytes below 2 ^ n
unfoldable pub doubled : ℕ → List ℕ
doubled zero = byte_part 0 ∷ []
doubled (suc n) = grown (byte_part (2 ^ n)) (doubled n)

byte_sum : (a b : ℕ) → byte_part (bit_xor a b) ≡ bit_xor (byte_part a) (byte_part b)
unfolding byte_part
byte_sum a b =
    ap parity_of (bits_xor 8 a b)
    ∙ part_sum (bits 8 a) (bits 8 b) (bits_length 8 a ∙ sym (bits_length 8 b)) (bits_below 8 a) (bits_below 8 b)

-- the part of a byte with the bit n set above k
behind : (n k : ℕ) → k < 2 ^ n → byte_part (2 ^ n + k) ≡ bit_xor (byte_part (2 ^ n)) (byte_part k)
behind n k h = ap byte_part (sym (ap (λ (x : ℕ). bit_xor x k) (sym (one-mul (2 ^ n))) ∙ xor_shifted 1 n k h ∙ ap (λ (x : ℕ). x + k) (one-mul (2 ^ n)))) ∙ byte_sum (2 ^ n) k

doubled_is : (n : ℕ) → doubled n ≡ tab byte_part 0 (2 ^ n)
unfolding doubled grown tab
doubled_is zero = refl
doubled_is (suc n) =
    let l : ℕ = 2 ^ n in
    let e : 2 ^ suc n ≡ l + l = pow-suc 2 n ∙ omega arith in
    ap (grown (byte_part l)) (doubled_is n)
    ∙ sym
    (ap (tab byte_part 0) e ∙ tab_append byte_part 0 l l
    ∙ ap (λ (m : List ℕ). tab byte_part 0 l ++ m)
    (ap (λ (i : ℕ). tab byte_part i l) (zero-add l) ∙ sym (tab_shift byte_part l l)
    ∙ tab_cong (λ k. byte_part (l + k)) (λ k. bit_xor (byte_part l) (byte_part k)) 0 l (λ k h. behind n (0 + k) (omega arith))
    ∙ sym (map_tab (bit_xor (byte_part l)) byte_part 0 l)))

pub all_bytes : doubled 8 ≡ byte_parts
unfolding byte_parts byte_part
all_bytes = doubled_is 8
